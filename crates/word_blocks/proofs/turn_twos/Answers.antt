-- `turn_twos` meets its contract: a word that is loaded, turned round and stored.
use mathlib.Core.Path.{refl}
use Rattle.words.specs.Words.{twos, fours, eight}
use Rattle.word_blocks.proofs.Words.{word_turned}
use Rattle.word_blocks.proofs.turn_twos.Goals as goal

pub turned-requires : goal.turned-requires
turned-requires c = search (twos, fours, eight)

pub returns : goal.returns
returns c =
    word_turned c.args.buf.now (λ i. (c.slice_known-1.given i).fits) 2 c.args.at refl c.requires c.word_at-word.result
    c.turned.result c.put_word.new.buf c.word_at-word.ensures c.turned.ensures c.put_word.ensures

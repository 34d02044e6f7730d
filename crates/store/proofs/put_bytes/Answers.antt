-- `put_bytes` meets its contract: after i turns the first i bytes are stored.
use Rattle.field.proofs.Stores.{byte_turn}
use Rattle.store.proofs.put_bytes.Goals as goal

pub loop-i-preserved : goal.loop-i-preserved
loop-i-preserved c = rw (c.put_byte.ensures, c.byte_at.ensures) (byte_turn _ _ _ _ _ c.loop-i.invariant)

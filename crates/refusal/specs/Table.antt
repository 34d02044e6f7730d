-- The refusal table as a table. 01-scope.md: "Each refusal returns its number and a place in the file", "Checks run in number
-- order": the verdict is that of the first row whose test holds, and a file is accepted where none does.
use Rattle.std.specs.Prelude.{ℕ, Bool, cond, List, [], ◌∷◌, Result, Ok, Err}
use Rattle.refusal.specs.declared.Rule.{Rule}
use Rattle.refusal.specs.declared.Rule.TheVariants.{ShortHeader, AxisCount, HeaderSize, UnknownMagic, AxisBelowOne, UnknownDatatype, WrongBitpix, OffsetNotWhole, OffsetOutside, ImageTooLarge, FileCut, ExtenderCut, WrongSize, NegativeCode, TooManyExtensions, ImageCut, IndexOutside, NoSuchExtension, NegativeCodeOffered, PrivateBytes, ListTooLong, ShortBuffer, NoPosition, LengthAboveBuffer, TooManyBytes, WrongRecord, FewerThanThreeAxes, NoPermutation}
use Rattle.refusal.specs.declared.Refusal.{Refusal}

-- the number of each rule
abbrev pub number_of : Rule → ℕ
number_of ShortHeader = 1
number_of AxisCount = 2
number_of HeaderSize = 3
number_of UnknownMagic = 4
number_of AxisBelowOne = 5
number_of UnknownDatatype = 6
number_of WrongBitpix = 7
number_of OffsetNotWhole = 8
number_of OffsetOutside = 9
number_of ImageTooLarge = 10
number_of FileCut = 11
number_of ExtenderCut = 12
number_of WrongSize = 13
number_of NegativeCode = 14
number_of TooManyExtensions = 15
number_of ImageCut = 16
number_of IndexOutside = 17
number_of NoSuchExtension = 18
number_of NegativeCodeOffered = 19
number_of PrivateBytes = 20
number_of ListTooLong = 21
number_of ShortBuffer = 22
number_of NoPosition = 23
number_of LengthAboveBuffer = 24
number_of TooManyBytes = 25
number_of WrongRecord = 26
number_of FewerThanThreeAxes = 29
number_of NoPermutation = 30

-- a row of the table: its rule, whether it is to be given, and the place
pub record Row : Type 0 where
  pub rule : Rule
  pub test : Bool
  pub place : ℕ

abbrev pub row : Rule → Bool → ℕ → Row
row rule test p = record { rule = rule; test = test; place = p }

abbrev pub refusal : Rule → ℕ → Refusal
refusal rule p = record { rule = rule; place = p }

-- accepted, or refused: what a check without a value answers
abbrev pub Verdict : Type 0
Verdict = Result (Unit {0}) Refusal

abbrev pub no_refusal : Verdict
no_refusal = Ok tt

-- the verdict of a table
unfoldable pub verdict : List Row → Verdict
verdict [] = no_refusal
verdict (r ∷ rs) = cond r.test (Err (refusal r.rule r.place)) (verdict rs)

-- What a call answers by a verdict: one thing where it accepts, and what it makes of the refusal where it refuses. Every answer of
-- the library is put together by this.
abbrev pub decided {ℓ} : {A : Type ℓ} → Verdict → A → (Refusal → A) → A
decided (Ok tt) a f = a
decided (Err r) a f = f r

-- "Checks run in number order": the second verdict counts where the first accepts
abbrev pub then : Verdict → Verdict → Verdict
then v w = decided v w Err

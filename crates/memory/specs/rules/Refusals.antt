-- Refusals by number (01, "Turned back"): a chain of tests, of which the first that fails gives the number, and 0 where none does.
use Rattle.std.specs.Prelude.{ℕ, ◌+◌, ◌*◌, ◌^◌, Bool, cond, Result, Ok, Err}
use Rattle.memory.specs.declared.refusals.Refusal.{Refusal}
use Rattle.memory.specs.declared.refusals.Refusal.TheVariants as refusals

-- the number k where the test says that the call is bad, else what the later tests give; shut, so that a proof takes a chain apart test by test
unfoldable pub refuse_if : Bool → ℕ → ℕ → ℕ
refuse_if bad k rest = cond bad k rest

-- 01's number of a refusal
abbrev pub number : Refusal → ℕ
number refusals.Sides = 1
number refusals.MaskLength = 2
number refusals.MaskByte = 3
number refusals.Skew = 4
number refusals.Slope = 5
number refusals.Sheet = 6
number refusals.Capacity = 7
number refusals.Place = 8
number refusals.Lent = 9
number refusals.Spoiled = 16
number refusals.NotEmpty = 17
number refusals.NotLevelled = 18
number refusals.NotSegmented = 19
number refusals.TooManyComponents = 20
number refusals.TooManyLines = 21

-- the number of an answer: 0 where the call is accepted
abbrev pub answer_number : {A : Type 0} → Result A Refusal → ℕ
answer_number (Ok a) = 0
answer_number (Err r) = number r

-- its value, a number: 0 where the call is refused
abbrev pub answer_value : Result ℕ Refusal → ℕ
answer_value (Ok n) = n
answer_value (Err r) = 0

-- both as one word, the number in the high half
abbrev pub answer_word : Result ℕ Refusal → ℕ
answer_word a = answer_number a * 2 ^ 32 + answer_value a

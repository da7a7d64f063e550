-- Run extents called by themselves: the number that a call is refused with, and what it gives (01, Limits, part 4 and "Turned back").
use Rattle.std.specs.Prelude.{ℕ, ◌*◌, Bool, true, false, cond, not, List, length, eqb, ltb, Result, Ok, Err}
use Rattle.memory.specs.rules.Words.{over}
use Rattle.memory.specs.rules.Refusals.{refuse_if, number}
use Rattle.memory.specs.declared.refusals.Refusal.{Refusal}
use Rattle.memory.specs.rules.Masks.{sides_refusal}
use Rattle.extents.specs.rules.Extents.{row_extents, column_extents}
use Rattle.extents.specs.declared.entry.Along.{Along}
use Rattle.extents.specs.declared.entry.Along.TheVariants.{Rows, Columns}

-- the number that a call is refused with, 0 where it is accepted, by the mask's length, its sides and the length of what is lent
unfoldable pub extents_refusal : ℕ → ℕ → ℕ → ℕ → ℕ
extents_refusal mask_length w h extents_length =
    sides_refusal w h (refuse_if (not (eqb mask_length (w * h))) 2 (refuse_if (ltb extents_length (w * h)) 9 0))

-- the run extents of a mask along its rows or columns
abbrev pub extents_along : Along → ℕ → ℕ → List ℕ → List ℕ
extents_along Rows w h m = row_extents w h m
extents_along Columns w h m = column_extents w h m

-- what a call gives: whether it is refused, 01's number, and what the lent words then hold
pub record ExtentsOutcome : Type 0 where
  pub refused : Bool
  pub number : ℕ
  pub extents : List ℕ

-- the outcome of each case of the answer, with what the lent words then hold
abbrev pub extents_outcome : {A : Type 0} → Result A Refusal → List ℕ → ExtentsOutcome
extents_outcome (Ok done) s = record { refused = false; number = 0; extents = s }
extents_outcome (Err r) s = record { refused = true; number = number r; extents = s }

-- the outcome that the rules give: the extents over the front of the lent words; refused, the words as they were
unfoldable pub run_extents : List ℕ → ℕ → ℕ → Along → List ℕ → ExtentsOutcome
run_extents m w h along s =
    let n = extents_refusal (length m) w h (length s) in
    record { refused = not (eqb n 0); number = n; extents = cond (eqb n 0) (over (extents_along along w h m) s) s }

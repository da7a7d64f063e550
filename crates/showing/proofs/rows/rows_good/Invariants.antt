use mathlib.Core.Path.{◌≡◌}
use mathlib.Core.Bool.{true}
use Prim.Native.Nat.{ℕ, ◌<◌}
use Rattle.showing.specs.rules.Inputs.{row_good}
use Rattle.showing.proofs.rows.rows_good.Given as goal

abbrev pub invariant-loop-y : goal.invariant-loop-y
invariant-loop-y l = (k : ℕ) → k < l.y → row_good l.s l.w k ≡ true

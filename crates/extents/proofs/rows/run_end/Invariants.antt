use mathlib.Core.Path.{◌≡◌}
use Prim.Native.Nat.{ℕ, ◌≤◌, ◌<◌}
use Rattle.memory.specs.rules.Masks.{is_ink}
use Rattle.extents.proofs.rows.run_end.Given as goal

abbrev pub invariant-loop-e : goal.invariant-loop-e
invariant-loop-e l = (k : ℕ) → l.x ≤ k → k < l.e → is_ink l.row k ≡ l.ink

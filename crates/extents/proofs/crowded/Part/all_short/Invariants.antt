use mathlib.Core.Path.{◌≡◌}
use mathlib.Core.Bool.{true}
use Prim.Native.Nat.{ℕ, ◌≤◌, ◌<◌}
use Rattle.extents.specs.stages.Scans.{no_four}
use Rattle.extents.proofs.crowded.Part.all_short.Given as goal

abbrev pub invariant-loop-i : goal.invariant-loop-i
invariant-loop-i l = l.short ≡ true → (k : ℕ) → l.self.x ≤ k → k < l.i → no_four l.self.row.now k

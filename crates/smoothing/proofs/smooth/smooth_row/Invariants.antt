use mathlib.Core.Path.{◌≡◌}
use Prim.Native.Nat.{ℕ}
use lib.ListN.{length}
use Rattle.smoothing.specs.stages.RowRuns.{SmoothingInput, PageWalk, RowOf}
use Rattle.smoothing.proofs.smooth.smooth_row.Given as goal

abbrev pub invariant-loop-i : goal.invariant-loop-i
invariant-loop-i l = (length l.words ≡ length l.initial.words) × (l.walk.passed ≡ l._i) × ((g : SmoothingInput) (y : ℕ) → PageWalk g l.initial.words l.places l.gap y l.initial.walk → RowOf g y l.first l.end → PageWalk g l.words l.places l.gap y l.walk)

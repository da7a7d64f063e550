use Prim.Native.Nat.{ℕ}
use mathlib.Core.Path.{◌≡◌}
use lib.ListN.{length}
use Rattle.grouping.specs.stages.Covers.{CoverSteps}
use Rattle.grouping.proofs.CoverSums.{Summed}
use Rattle.grouping.proofs.column.sum_cover.Given as goal

abbrev pub invariant-loop-x : goal.invariant-loop-x
invariant-loop-x l = (length l.counts ≡ length l.initial.counts) × ((f : ℕ → ℕ) → CoverSteps l.w l.initial.counts f → Summed l.w l.initial.counts f l.counts l.depth l.busiest l.x)

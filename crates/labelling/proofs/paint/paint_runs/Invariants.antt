use Prim.Native.Nat.{◌-◌}
use lib.ListN.{drop}
use Rattle.labelling.specs.stages.Painting.{numbered}
use Rattle.labelling.proofs.RowPaintLaws.{PlaneSweep}
use Rattle.labelling.proofs.paint.paint_runs.Given as goal

abbrev pub invariant-loop-reached : goal.invariant-loop-reached
invariant-loop-reached l = PlaneSweep l.w l.c l.h (numbered l.c l.words (drop l.numbers l.words)) l.initial.labels l.labels l.initial.components l.components l.reached.next l.reached.count l.reached.clear

abbrev pub decreases-loop-reached : goal.decreases-loop-reached
decreases-loop-reached l = l.c - l.reached.next

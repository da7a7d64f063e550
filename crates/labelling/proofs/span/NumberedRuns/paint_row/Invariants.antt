use Prim.Native.Nat.{◌-◌}
use Rattle.labelling.specs.stages.Painting.{numbered}
use Rattle.labelling.proofs.RowPaintLaws.{RowSweep}
use Rattle.labelling.proofs.span.NumberedRuns.paint_row.Given as goal

abbrev pub invariant-loop-k : goal.invariant-loop-k
invariant-loop-k l = RowSweep l.self.w l.self.c (numbered l.self.c l.self.runs.now l.self.numbers.now) l.initial.labels l.labels l.initial.components l.components l.y l.initial.k l.initial.count l.initial.clear l.k l.count l.clear

abbrev pub decreases-loop-k : goal.decreases-loop-k
decreases-loop-k l = l.self.c - l.k

use Rattle.labelling.proofs.RowSizeLaws.{PlaneSweep}
use Rattle.labelling.proofs.sizes.SizeTable.size_runs.Given as goal

abbrev pub invariant-loop-y : goal.invariant-loop-y
invariant-loop-y l = PlaneSweep l.self.w l.h l.self.c l.self.at l.initial.words l.words l.reached.next l.reached.count l.y

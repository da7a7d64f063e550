use Rattle.labelling.proofs.RowLinkLaws.{LinkSweep}
use Rattle.labelling.proofs.row_by_row.extract_linked.Given as goal

abbrev pub invariant-loop-y : goal.invariant-loop-y
invariant-loop-y l = LinkSweep l.w l.h l.mask l.initial.words l.words l.parents l.above l.here l.base l.y

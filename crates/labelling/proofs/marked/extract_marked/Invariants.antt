use Rattle.labelling.proofs.MarkedLaws.{MarkedPlane}
use Rattle.labelling.proofs.marked.extract_marked.Given as goal

abbrev pub invariant-loop-y : goal.invariant-loop-y
invariant-loop-y l = MarkedPlane l.test l.w l.h l.ink l.initial.words l.words l.marks l.k l.base l.y

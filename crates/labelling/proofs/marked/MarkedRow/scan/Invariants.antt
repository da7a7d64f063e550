use Rattle.labelling.proofs.MarkedLaws.{MarkedSweep}
use Rattle.labelling.proofs.marked.MarkedRow.scan.Given as goal

abbrev pub invariant-loop-x : goal.invariant-loop-x
invariant-loop-x l = MarkedSweep l.self.test l.self.ink.now l.from l.to l.self.base l.initial.words l.words l.at l.self.marks l.k l.before l.x

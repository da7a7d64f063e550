use Prim.Native.Nat.{◌-◌}
use lib.ListN.{length}
use Rattle.labelling.proofs.MarkedLaws.{MarkedRowScan}
use Rattle.labelling.proofs.marked.MarkedRow.extract.Given as goal

abbrev pub invariant-loop-x : goal.invariant-loop-x
invariant-loop-x l = MarkedRowScan l.self.test l.self.ink.now l.self.base l.initial.words l.words l.at l.self.marks l.k l.x

abbrev pub decreases-loop-x : goal.decreases-loop-x
decreases-loop-x l = length l.self.ink.now - l.x

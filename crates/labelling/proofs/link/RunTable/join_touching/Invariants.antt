use Rattle.labelling.proofs.RunLinkLaws.{Sweep}
use Rattle.labelling.proofs.link.RunTable.join_touching.Given as goal

abbrev pub invariant-loop-k : goal.invariant-loop-k
invariant-loop-k l = Sweep l.self.w l.self.c l.self.parents l.initial.words l.words l.first l.to l.j l.k l.member

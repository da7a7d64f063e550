use Rattle.labelling.proofs.RunLinkLaws.{RowWalk}
use Rattle.labelling.proofs.link.RunTable.link_row.Given as goal

abbrev pub invariant-loop-j : goal.invariant-loop-j
invariant-loop-j l = RowWalk l.self.w l.self.c l.self.parents l.limit l.initial.words l.words l.above l.here l.i l.j

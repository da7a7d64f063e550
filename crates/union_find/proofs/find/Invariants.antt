use Rattle.union_find.proofs.HalvingLaws.{Walk}
use Rattle.union_find.proofs.find.Given as goal

abbrev pub invariant-loop-parent : goal.invariant-loop-parent
invariant-loop-parent l = Walk l.initial.parents l.parents l.x l.i l.parent

abbrev pub decreases-loop-parent : goal.decreases-loop-parent
decreases-loop-parent l = l.i

use Rattle.labelling.proofs.RunLinkLaws.{PlaneSweep}
use Rattle.labelling.proofs.link.link_runs.Given as goal

abbrev pub invariant-loop-y : goal.invariant-loop-y
invariant-loop-y l = PlaneSweep l.w l.c l.parents l.h l.initial.words l.words l.above l.here l.base l.y

use Rattle.labelling.proofs.ExtractLaws.{PlaneScan}
use Rattle.labelling.proofs.runs.extract_runs.Given as goal

abbrev pub invariant-loop-y : goal.invariant-loop-y
invariant-loop-y l = PlaneScan l.w l.h l.mask l.initial.words l.words l.k l.base l.y

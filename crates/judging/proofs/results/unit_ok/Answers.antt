use Rattle.judging.proofs.ResultLaws.{assumed-is, measured-is}
use Rattle.judging.proofs.results.unit_ok.Goals as goal

-- `judging::results::unit_ok` meets its contract. Assumes nothing.

pub returns-then-case-eq0 : goal.returns-then-case-eq0
returns-then-case-eq0 c = assumed-is c.args.case c.args.x c.is_finite-real.result c.is_finite-real.ensures c.if-case-eq0.true

pub returns-else-case-eq0 : goal.returns-else-case-eq0
returns-else-case-eq0 c = measured-is c.args.case c.args.x c.is_finite-real.result c.is_finite-real.ensures c.if-case-eq0.false

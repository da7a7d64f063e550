use native.Mathlib.Omega.{arith}
use Rattle.sorting.proofs.HeightLaws.{unit-none, unit-some}
use Rattle.sorting.proofs.measure.unit_from.Goals as goal

pub returns-then-n-eq0 : goal.returns-then-n-eq0
returns-then-n-eq0 c = λ l C. unit-none c.args.sheet c.args.n l _ (omega arith) C

pub returns : goal.returns
returns c = λ l C. unit-some c.args.sheet c.args.n c.median_of_counts.result l _ (λ z. omega arith) C (c.median_of_counts.ensures l C)

use mathlib.Core.Path.{ap, sym}
use mathlib.Core.Bool.{Bool}
use Rattle.stages.specs.rules.Sorting.{unit_for}
use Rattle.stages.proofs.sorting_parts.unit_for.Goals as goal

-- `stages::sorting_parts::unit_for` meets its contract, case by case. Assumes nothing.

pub returns-then-measured : goal.returns-then-measured
returns-then-measured c = ap (λ (b : Bool). unit_for b c.args.value) (sym c.if-measured.true)

pub returns-else-measured : goal.returns-else-measured
returns-else-measured c = ap (λ (b : Bool). unit_for b c.args.value) (sym c.if-measured.false)

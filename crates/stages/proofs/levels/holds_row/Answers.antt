use mathlib.Core.Path.{refl}
use Rattle.stages.specs.rules.Levels.{holds_row}
use Rattle.stages.proofs.levels.holds_row.Goals as goal

-- `stages::levels::holds_row` meets its contract, test by test. Assumes nothing.

pub returns : goal.returns
unfolding holds_row
returns c = refl

use mathlib.Core.Path.{refl}
use lib.Ieee.{of_bits, neg}
use Rattle.stages.specs.rules.Levels.{in_limits}
use Rattle.stages.proofs.levels.in_limits.Goals as goal

-- `stages::levels::in_limits` meets its contract, test by test. Assumes nothing.

pub returns : goal.returns
unfolding in_limits of_bits neg
returns c = refl

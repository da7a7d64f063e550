use mathlib.Core.Path.{refl}
use lib.Ieee.{of_bits, neg}
use Rattle.judging.specs.rules.Spoiled.{slope_ok}
use Rattle.judging.proofs.judging.slope_ok.Goals as goal

-- `judging::judging::slope_ok` meets its contract. Assumes nothing.

pub returns : goal.returns
unfolding slope_ok of_bits neg
returns c = refl

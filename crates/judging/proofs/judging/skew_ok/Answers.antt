use mathlib.Core.Path.{refl}
use lib.Ieee.{of_bits, neg}
use Rattle.judging.specs.rules.Spoiled.{skew_ok}
use Rattle.judging.proofs.judging.skew_ok.Goals as goal

-- `judging::judging::skew_ok` meets its contract. Assumes nothing.

pub returns : goal.returns
unfolding skew_ok of_bits neg
returns c = refl

use native.Mathlib.Omega.{arith}
use Rattle.rulings.specs.rules.Rulings.{thick_max}
use Rattle.rulings.proofs.lengths.thick_max.Goals as goal

pub returns : goal.returns
unfolding thick_max
returns c = omega (arith, c.max.ensures, c.round_to_u32.ensures)

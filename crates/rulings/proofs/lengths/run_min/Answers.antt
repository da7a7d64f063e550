use native.Mathlib.Omega.{arith}
use Rattle.rulings.specs.rules.Rulings.{run_min}
use Rattle.rulings.proofs.lengths.run_min.Goals as goal

pub returns : goal.returns
unfolding run_min
returns c = omega (arith, c.max.ensures, c.round_to_u32.ensures)

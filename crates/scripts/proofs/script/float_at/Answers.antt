use mathlib.Core.Path.{refl, sym}
use native.Mathlib.Omega.{arith}
use lib.Ieee.{nan, div, of_bits}
use lib.ListN.{get_or-eq_default}
use Rattle.scripts.proofs.script.float_at.Goals as goal

pub returns-then-k-floats : goal.returns-then-k-floats
returns-then-k-floats c = refl

pub returns-else-k-floats : goal.returns-else-k-floats
unfolding div of_bits
returns-else-k-floats c = sym (get_or-eq_default c.args.floats.now nan (omega arith))

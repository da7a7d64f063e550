use mathlib.Core.Path.{◌≡◌, refl, ap}
use mathlib.Core.Bool.{Bool, true, false, not, ◌&&◌, ◌||◌}
use lib.Ieee.{Float, nan, inf, fin, of_bits, neg, div, lt}
use lib.Ieee.Scale.{finite}
use Rattle.params.specs.rules.Valid.{float_zero, ten_thousand}
use Rattle.params.proofs.length_ok.Goals as goal

-- a float is finite just where it lies between the infinities
finite-is : (v : Float) → (lt (inf true) v && lt v (inf false)) ≡ finite v
unfolding lt
finite-is nan = refl
finite-is (inf true) = refl
finite-is (inf false) = refl
finite-is (fin s m e) = refl

pub returns : goal.returns
unfolding of_bits neg div
returns c = ap (λ (b : Bool). not (not b || lt c.args.v float_zero || lt ten_thousand c.args.v)) (finite-is c.args.v)

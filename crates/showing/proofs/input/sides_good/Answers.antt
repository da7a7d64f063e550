use mathlib.Core.Bool.{◌&&◌}
use Prim.Native.Nat.{◌+◌, ◌*◌, ◌/◌}
use lib.Dec.{eqb, leb}
use lib.ListN.{length}
use Rattle.showing.specs.rules.Inputs.{sides_good}
use Rattle.showing.proofs.InputLaws.{rows_fit}
use native.Mathlib.Omega.{arith}
use Rattle.showing.proofs.input.sides_good.Goals as goal

pub overflow_mul-result : goal.overflow_mul-result
overflow_mul-result c = omega (arith, rows_fit c.number_at-w.result c.number_at-h.result (omega arith) (omega arith))

pub overflow_add-result-3 : goal.overflow_add-result-3
overflow_add-result-3 c = omega (arith, rows_fit c.number_at-w.result c.number_at-h.result (omega arith) (omega arith))

pub returns : goal.returns
unfolding sides_good
returns c =
    let w = c.number_at-w.ensures.0 in
    let h = c.number_at-h.ensures.0 in
    λ i. (leb (w i) 16 && leb (h i) 16) && eqb (length c.args.s.now) (41 + h i * ((w i + 3) / 4 + 1))

use mathlib.Core.Path.{◌≡◌, refl, ap, ◌∙◌}
use Prim.Native.Nat.{◌^◌}
use Rattle.showing.specs.rules.Inputs.{number_at}
use Rattle.showing.proofs.ReadLaws.{number_more, power-more, power_small}
use native.Mathlib.Omega.{arith}
use Rattle.showing.proofs.reading.number_at.Goals as goal

pub loop-b-init : goal.loop-b-init
unfolding number_at
loop-b-init c = (refl, omega arith)

pub overflow_mul-v : goal.overflow_mul-v
overflow_mul-v c = omega (arith, power_small c.loop-b.b-index (omega arith))

pub overflow_add-v : goal.overflow_add-v
overflow_add-v c = omega (arith, power_small c.loop-b.b-index (omega arith))

pub loop-b-preserved : goal.loop-b-preserved
loop-b-preserved c =
    let a = c.args in
    let b = c.loop-b in
    let d = c.digit_value in
    (number_more a.s.now a.at a.n b.b-index b.v d.result (omega arith) b.invariant.0 d.ensures.0, power-more b.b-index b.v d.result b.invariant.1 d.ensures.1)

pub returns : goal.returns
returns c =
    let a = c.args in
    let e : c.loop-b.b-index ≡ a.n = omega arith in
    (c.loop-b.invariant.0 ∙ ap (number_at a.s.now a.at) e, (let b : 16 ^ c.loop-b.b-index ≡ 16 ^ a.n = ap (λ z. 16 ^ z) e in omega arith))

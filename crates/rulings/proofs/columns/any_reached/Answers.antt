use mathlib.Core.Path.{◌≡◌, ◌∙◌, ap}
use Prim.Native.Nat.{◌+◌, ◌-◌}
use native.Mathlib.Omega.{arith}
use lib.ListN.{get_or}
use Rattle.memory.proofs.PartLaws.{get_or-part, length_part}
use Rattle.rulings.proofs.columns.any_reached.Goals as goal

pub returns : goal.returns
returns c = λ f o x y.
    let a = c.args in
    let h = c.loop-since.invariant f (o - a.a) (omega (arith, length_part a.a a.b a.words.now (omega arith) (omega arith))) in
    let e : a.a + (o - a.a) ≡ o = omega arith in
    let g = get_or-part a.a (a.b - a.a) a.words.now (o - a.a) (omega arith) ∙ ap (λ k. get_or a.words.now k 0) e in
    omega arith

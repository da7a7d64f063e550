use native.Mathlib.Omega.{arith}
use mathlib.Core.Path.{◌≡◌, ap, ◌∙◌}
use Prim.Native.Nat.{◌+◌, ◌-◌, ◌*◌, ◌/◌}
use Rattle.labelling.proofs.AbsorbLaws.{column-span}
use Rattle.labelling.proofs.span.column_sum.Goals as goal

pub returns : goal.returns
returns c = ap (λ z. z * ((c).args.x + (c).args.last) / 2) (let p = (c).requires.2 in let e : (c).args.dots ≡ (c).args.last - (c).args.x + 1 = omega arith in e) ∙ column-span (c).args.x (c).args.last (c).requires.0

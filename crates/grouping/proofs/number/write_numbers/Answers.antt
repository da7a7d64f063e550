use Prim.Native.Nat.{ℕ, ◌+◌, ◌*◌}
use mathlib.Core.Path.{refl, ap, ◌∙◌}
use lib.ListN.{get_or, set, length-set}
use lib.Seq.{get_or-take, length-take-le}
use Rattle.grouping.proofs.NumberLaws.{blocks-none, blocks_more}
use native.Mathlib.Omega.{arith}
use Rattle.grouping.proofs.number.write_numbers.Goals as goal

pub loop-i-init : goal.loop-i-init
loop-i-init c = (refl, blocks-none _ _)

pub loop-i-preserved : goal.loop-i-preserved
loop-i-preserved c =
    let z = length-take-le c.args.n c.args.numbers.now (omega arith) in
    let e = get_or-take c.args.n c.args.numbers.now c.loop-i.i 0 (omega arith) in
    (simp length-set c.loop-i.invariant.0, ap (set c.loop-i.lines (c.loop-i.i * 8 + 7)) e ∙ blocks_more (λ (k : ℕ). get_or c.args.numbers.now k 0) c.loop-i.i c.args.lines.now c.loop-i.lines c.loop-i.invariant.1)

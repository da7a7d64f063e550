use native.Mathlib.Omega.{arith}
use mathlib.Core.Path.{ap, ◌∙◌}
use mathlib.Core.Bool.{cond}
use Prim.Native.Nat.{◌+◌}
use lib.ListN.{get_or}
use lib.Dec.{ltb}
use Rattle.memory.specs.rules.Masks.{is_ink}
use Rattle.extents.proofs.ExtentLaws.{bit-times}
use Rattle.extents.proofs.PutLaws.{put_up}
use Rattle.extents.proofs.bands.count_more.Goals as goal

pub loop-i-preserved : goal.loop-i-preserved
unfolding is_ink
loop-i-preserved c =
    let a = c.args in
    put_up _ c.loop-i.invariant (omega arith) (omega arith) (bit-times (ltb 0 (get_or a.dots.now c.loop-i.i 0)) (get_or c.loop-i.counts c.loop-i.i 0 + 1) ∙ ap (λ n. cond (is_ink a.dots.now c.loop-i.i) (n + 1) 0) (c.loop-i.invariant.upper c.loop-i.i (omega arith)))

use Prim.Native.Nat.{◌*◌}
use native.Mathlib.Omega.{arith}
use mathlib.Core.Path.{◌≡◌, sym, ap, ◌∙◌}
use native.Mathlib.Nat.{zero-mul, mul_comm}
use lib.ListN.{get_or}
use Rattle.memory.specs.rules.Lists.{table}
use Rattle.memory.specs.rules.Words.{over}
use Rattle.extents.specs.stages.Scans.{row_extent, until}
use Rattle.extents.specs.rules.Extents.{row_extents}
use Rattle.extents.proofs.OverLaws.{over_none, over-all}
use Rattle.extents.proofs.ExtentLaws.{rows-loop}
use Rattle.extents.proofs.rows.row_extents.Goals as goal

pub loop-y-init : goal.loop-y-init
loop-y-init c =
    let a = c.args in
    over_none (row_extent a.width a.mask.now) (a.width * a.height) a.extents.now (omega arith) ∙ ap (λ k. over (table (until k (row_extent a.width a.mask.now) (λ k. get_or a.extents.now k 0)) (a.width * a.height)) a.extents.now) (sym (zero-mul a.width))

pub loop-y-preserved : goal.loop-y-preserved
loop-y-preserved c =
    let a = c.args in
    let e = rows-loop a.width a.height c.loop-y.y a.mask.now a.extents.now c.loop-y.extents c.extents_of_row.new.extents (omega arith) (omega arith) (omega arith) (omega arith) c.loop-y.invariant c.extents_of_row.ensures in
    e

pub returns : goal.returns
unfolding row_extents
returns c =
    let a = c.args in
    let f = row_extent a.width a.mask.now in
    let y : c.loop-y.y ≡ a.height = omega arith in
    c.loop-y.invariant
    ∙ (ap (λ k. over (table (until k f (λ j. get_or a.extents.now j 0)) (a.width * a.height)) a.extents.now) (ap (λ k. k * a.width) y ∙ mul_comm a.height a.width)
    ∙ over-all f (λ j. get_or a.extents.now j 0) (a.width * a.height) a.extents.now (omega arith))

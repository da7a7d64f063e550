use mathlib.Core.Path.{◌∙◌}
use native.Mathlib.Omega.{arith}
use lib.ListN.{length}
use Rattle.levelling.specs.stages.Moves.{or_rows}
use Rattle.levelling.proofs.TileLaws.{row_moved, fits-again}
use Rattle.levelling.proofs.page_plane.PagePlane.move_tile.Goals as goal

pub loop-y-init : goal.loop-y-init
unfolding or_rows
loop-y-init c = λ done s e. e

pub loop-y-preserved : goal.loop-y-preserved
loop-y-preserved c =
    let a = c.args in
    let p = a.self.now in
    λ done s e.
    c.move_part.ensures p.sides.page_h (or_rows done p.sides.page_w a.c a.n c.loop-y.y) s c.loop-y-test.true
    (fits-again p.sides.page_w p.sides.page_h p.shear.now p.shear_x.now p.sides.w (length p.shear_x.now) p.page.now a.out.now c.loop-y.out c.requires.planes (omega arith))
    (c.loop-y.invariant done s e)
    ∙ row_moved p.sides.page_w p.sides.page_h p.shear.now p.shear_x.now p.sides.w (length p.shear_x.now) p.fill p.page.now a.out.now c.requires.planes done s c.loop-y.y a.c a.n

use mathlib.Core.Path.{◌∙◌}
use Prim.Native.Nat.{◌+◌, ◌<◌}
use native.Mathlib.Omega.{arith}
use lib.ListN.{length}
use Rattle.levelling.proofs.TileLaws.{place_inside, dot-stored, dot-passed}
use Rattle.levelling.proofs.tiles.DotsWay.move_part.Goals as goal
use Rattle.levelling.proofs.tiles.DotsWay.move_part.Goals.{then-dot-plane, else-dot-plane}

pub bounds-out-r : goal.bounds-out-r
bounds-out-r c =
    let p = c.args.plane.now in
    let f = c.requires.fits in
    place_inside p.shear.now p.shear_x.now p.sides.w c.args.part.y (c.args.part.c + c.loop-i.i) (length c.loop-i.out) (omega (arith, f.columns)) f.rows f.inside (omega (arith, f.room)) _

pub loop-i-preserved : goal.loop-i-preserved
loop-i-preserved c =
    let p = c.args.plane.now in
    let a = c.args.part in
    λ page_h done s ly fits e.
    let k : a.c + c.loop-i.i < p.sides.page_w = omega (arith, c.requires.fits.columns, fits.columns) in
    elim c.if-dot-plane.branch [
      | then-dot-plane v ↦ dot-stored p.sides.page_w page_h p.shear.now p.shear_x.now p.sides.w (length p.shear_x.now) p.fill p.page.now c.args.out.now fits done s a.y a.c c.loop-i.i c.loop-i.out c.if-dot-plane.out ly k (c.loop-i.invariant page_h done s ly fits e) v.out-is
      | else-dot-plane v ↦ v.out-is ∙ (c.loop-i.invariant page_h done s ly fits e ∙ dot-passed p.sides.page_w page_h p.shear.now p.shear_x.now p.sides.w (length p.shear_x.now) p.fill p.page.now c.args.out.now fits done s a.y a.c c.loop-i.i ly k v.if-dot-plane.false)
    ]

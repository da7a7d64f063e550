use mathlib.Core.Path.{◌≡◌, ap, ◌∙◌, subst}
use Prim.Native.Nat.{ℕ, ◌+◌, ◌-◌, ◌*◌, ◌/◌, ◌≤◌, ◌<◌}
use native.Mathlib.Nat.{le-div_iff_mul-le, div-mul-le_self}
use native.Mathlib.Omega.{arith}
use lib.ListN.{length}
use Rattle.levelling.specs.rules.Frames.{frame_of}
use Rattle.levelling.specs.stages.Moves.{partly, or_range}
use Rattle.levelling.proofs.TileLaws.{part-joined, part-all, part-skipped, fits-again}
use Rattle.levelling.proofs.tiles.PiecesWay.move_part.Goals as goal
use Rattle.levelling.proofs.tiles.PiecesWay.move_part.Goals.{then-not-all_equal, else-not-all_equal}

-- a piece lies in the part
inside : (k m n : ℕ) → 0 < m → k < n / m → k * m + m ≤ n
inside k m n some l = let h : (k + 1) * m ≤ n = (le-div_iff_mul-le some).0 (omega arith) in omega arith

pub loop-piece-preserved : goal.loop-piece-preserved
loop-piece-preserved g c =
    let p = c.args.plane.now in
    let a = c.args.part in
    let m = g.row.N in
    let i = c.loop-piece.piece * m in
    let more : i + m ≡ (c.loop-piece.piece + 1) * m = omega arith in
    let in_part : i + m ≤ a.n = inside c.loop-piece.piece m a.n c.args.self.now.some (omega arith) in
    λ page_h done s ly fits e.
    let so_far = c.loop-piece.invariant page_h done s ly fits e in
    let before = or_range done (a.y * p.sides.page_w + a.c) (a.y * p.sides.page_w + a.c + i) in
    let joined = part-joined p.sides.page_w page_h p.shear.now p.shear_x.now p.sides.w (length p.shear_x.now) p.fill p.page.now c.args.out.now fits done s a.y a.c i m in
    subst (λ k. c.if-not-all_equal.out ≡ partly (frame_of p.sides.page_w page_h p.shear.now p.shear_x.now p.sides.w (length p.shear_x.now)) p.fill p.page.now (or_range done (a.y * p.sides.page_w + a.c) (a.y * p.sides.page_w + a.c + k)) s) more
    (elim c.if-not-all_equal.branch [
      | then-not-all_equal v ↦ v.out-is ∙ (v.move_part.ensures page_h before s ly (fits-again p.sides.page_w page_h p.shear.now p.shear_x.now p.sides.w (length p.shear_x.now) p.page.now c.args.out.now c.loop-piece.out fits (omega arith)) so_far ∙ joined)
      | else-not-all_equal v ↦ v.out-is ∙ (so_far ∙ (part-skipped p.sides.page_w page_h p.shear.now p.shear_x.now p.sides.w (length p.shear_x.now) p.fill p.page.now c.args.out.now fits before s a.y (a.c + i) m ly (omega (arith, c.requires.fits.columns, fits.columns)) (part-all p.page.now p.fill (a.y * p.sides.page_w) (a.c + i) m (omega (arith, c.requires.fits.dots)) (c.all_equal.ensures v.if-not-all_equal.false)) ∙ joined))
    ])

pub returns : goal.returns
returns g c =
    let p = c.args.plane.now in
    let a = c.args.part in
    let m = g.row.N in
    let i = a.n / m * m in
    let last : c.loop-piece.piece ≡ a.n / m = omega arith in
    let all : i + (a.n - i) ≡ a.n = (let h = div-mul-le_self a.n m in omega arith) in
    λ page_h done s ly fits e.
    let F = frame_of p.sides.page_w page_h p.shear.now p.shear_x.now p.sides.w (length p.shear_x.now) in
    let at = a.y * p.sides.page_w + a.c in
    c.move_part-2.ensures page_h (or_range done at (at + i)) s ly
    (fits-again p.sides.page_w page_h p.shear.now p.shear_x.now p.sides.w (length p.shear_x.now) p.page.now c.args.out.now c.loop-piece.out fits (omega arith))
    (subst (λ k. c.loop-piece.out ≡ partly F p.fill p.page.now (or_range done at (at + k * m)) s) last (c.loop-piece.invariant page_h done s ly fits e))
    ∙ (part-joined p.sides.page_w page_h p.shear.now p.shear_x.now p.sides.w (length p.shear_x.now) p.fill p.page.now c.args.out.now fits done s a.y a.c i (a.n - i)
    ∙ ap (λ k. partly F p.fill p.page.now (or_range done at (at + k)) s) all)

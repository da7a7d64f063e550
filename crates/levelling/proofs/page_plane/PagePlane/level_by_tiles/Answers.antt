use mathlib.Core.Path.{◌≡◌, refl, ap, ◌∙◌, subst}
use mathlib.Core.List.{List, ◌++◌}
use Prim.Native.Nat.{ℕ, ◌+◌, ◌*◌, ◌<◌, min}
use native.Mathlib.Omega.{arith}
use lib.ListN.{length, take, drop, length-take}
use Rattle.memory.specs.rules.Lists.{table}
use Rattle.memory.specs.rules.Words.{over}
use Rattle.levelling.specs.declared.page_plane.PagePlane.{PagePlane}
use Rattle.levelling.specs.rules.Frames.{frame_of}
use Rattle.levelling.specs.rules.Planes.{levelled}
use Rattle.levelling.specs.stages.Rooms.{PlaneFits}
use Rattle.levelling.specs.stages.Held.{frame_held, frame_moved}
use Rattle.levelling.proofs.TileLaws.{Tiled, tiled-none, tiled-more, tiled-all, fits-again}
use Rattle.levelling.proofs.page_plane.PagePlane.level_by_tiles.Goals as goal

-- the tiles together are the levelled page
whole : (p : PagePlane) (s v out : List ℕ) → PlaneFits (frame_held p) p.page.now s → v ≡ table (λ _. p.fill) (length (take (p.sides.w * p.sides.h) s))
    → Tiled (frame_moved p) p.fill p.page.now (v ++ drop (p.sides.w * p.sides.h) s) out p.sides.page_w → out ≡ over (levelled (frame_held p) p.fill p.page.now) s
whole p s v out F e T =
    let rows : length p.shear_x.now ≡ p.sides.h = F.rows in
    let k : p.sides.w * length p.shear_x.now ≡ p.sides.w * p.sides.h = ap (λ z. p.sides.w * z) rows in
    tiled-all p.sides.page_w p.sides.page_h p.shear.now p.shear_x.now p.sides.w (length p.shear_x.now) p.fill p.page.now s v _ out p.sides.page_w
    (length (take (p.sides.w * p.sides.h) s)) (p.sides.w * p.sides.h)
    (fits-again p.sides.page_w p.sides.page_h p.shear.now p.shear_x.now p.sides.w p.sides.h p.page.now s s F refl)
    refl e (simp length-take (omega (arith, F.out_size, k))) (omega (arith, k)) T refl
    ∙ ap (λ z. over (levelled (frame_of p.sides.page_w p.sides.page_h p.shear.now p.shear_x.now p.sides.w z) p.fill p.page.now) s) rows

pub overflow_sub-self : goal.overflow_sub-self
overflow_sub-self c = omega (arith, c.requires.above 0)

pub returns-then-self-le-TILE : goal.returns-then-self-le-TILE
returns-then-self-le-TILE c =
    let p = c.args.self.now in
    let all : 0 + p.sides.page_w ≡ p.sides.page_w = omega arith in
    whole p c.args.out.now c.fill.new.dst c.move_tile.new.out c.requires c.fill.ensures
    (subst (Tiled (frame_moved p) p.fill p.page.now _ c.move_tile.new.out) all (tiled-more _ _ _ _ _ _ 0 p.sides.page_w (tiled-none (frame_moved p) p.fill p.page.now _) c.move_tile.ensures))

pub loop-tile-init : goal.loop-tile-init
loop-tile-init c =
    let p = c.args.self.now in
    let none : 0 ≡ min 0 p.sides.page_w = omega arith in
    subst (Tiled (frame_moved p) p.fill p.page.now _ _) none (tiled-none (frame_moved p) p.fill p.page.now _)

pub loop-tile-preserved : goal.loop-tile-preserved
loop-tile-preserved c =
    let p = c.args.self.now in
    let from = c.loop-tile.tile * 1024 in
    let below : from < p.sides.page_w = omega arith in
    let so_far : min from p.sides.page_w ≡ from = omega arith in
    let then : from + c.min.result ≡ min ((c.loop-tile.tile + 1) * 1024) p.sides.page_w = omega arith in
    subst (Tiled (frame_moved p) p.fill p.page.now _ c.move_tile-in-loop-tile.new.out) then
    (tiled-more (frame_moved p) p.fill p.page.now _ c.loop-tile.out _ from c.min.result (subst (Tiled (frame_moved p) p.fill p.page.now _ c.loop-tile.out) so_far c.loop-tile.invariant) c.move_tile-in-loop-tile.ensures)

pub returns : goal.returns
returns c =
    let p = c.args.self.now in
    let all : min (c.loop-tile.tile * 1024) p.sides.page_w ≡ p.sides.page_w = omega arith in
    whole p c.args.out.now c.fill.new.dst c.loop-tile.out c.requires c.fill.ensures (subst (Tiled (frame_moved p) p.fill p.page.now _ c.loop-tile.out) all c.loop-tile.invariant)

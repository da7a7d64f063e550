use mathlib.Core.Path.{◌≡◌, sym, ap}
use mathlib.Core.List.{◌++◌}
use Prim.Native.Nat.{◌+◌, ◌-◌, ◌*◌}
use native.Mathlib.Nat.{zero-mul}
use native.Mathlib.Omega.{arith}
use borrow.Rule.Slice.PartMut.{put_mid}
use lib.ListN.{length, get_or, take, drop, length-take, length-drop}
use Rattle.memory.specs.rules.Lists.{table}
use Rattle.memory.proofs.PlaneLaws.{row-end}
use Rattle.levelling.specs.stages.Held.{frame_held}
use Rattle.levelling.proofs.RowLaws.{plane_at, row_put, rows_all}
use Rattle.levelling.proofs.page_plane.PagePlane.level_rows.Goals as goal

pub loop-r-init : goal.loop-r-init
unfolding table
loop-r-init c =
    let p = c.args.self.now in
    ap (λ n. table (plane_at (frame_held p) p.fill p.page.now) n ++ drop n c.args.out.now) (sym (zero-mul p.sides.w))

pub loop-r-preserved : goal.loop-r-preserved
loop-r-preserved c =
    let p = c.args.self.now in
    let F = c.requires.planes in
    let start = c.loop-r.r * p.sides.w in
    let left = start + get_or p.shear_x.now c.loop-r.r 0 in
    let right = left + p.sides.page_w in
    let end = start + p.sides.w in
    let one = put_mid start (left - start) c.loop-r.out c.fill.new.dst in
    let two = put_mid left (right - left) one c.level_columns.new.out in
    let e = row-end p.sides.w p.sides.h c.loop-r.r c.loop-r-test.true in
    let i = F.inside c.loop-r.r in
    let k : length two ≡ length c.loop-r.out = omega arith in
    row_put (frame_held p) p.fill p.page.now c.args.out.now c.loop-r.out c.fill.new.dst c.level_columns.new.out c.fill-in-loop-r.new.dst c.loop-r.r
    (length (take (left - start) (drop start c.loop-r.out))) (length (take (end - right) (drop right two))) (left - start) (right - left) (end - right)
    c.loop-r.invariant c.fill.ensures c.level_columns.ensures c.fill-in-loop-r.ensures i
    (simp (length-take, length-drop) (omega (arith, e, F.out_size, i))) (simp (length-take, length-drop) (omega (arith, k, e, F.out_size, i))) (omega arith) (omega arith) (omega (arith, i))

pub returns : goal.returns
returns c =
    let p = c.args.self.now in
    rows_all (frame_held p) p.fill p.page.now c.args.out.now c.loop-r.out c.loop-r.r c.loop-r.invariant (omega arith)

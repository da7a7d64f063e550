use mathlib.Core.Path.{refl}
use Prim.Native.Nat.{◌-◌, ◌≤◌, zero-le}
use native.Mathlib.Omega.{arith}
use lib.ListN.{length, take, drop, get_or, length-take, length-drop}
use Rattle.memory.specs.rules.Lists.{table}
use Rattle.levelling.specs.stages.Moves.{Plateau}
use Rattle.levelling.proofs.RowLaws.{plateau-put}
use Rattle.levelling.proofs.page_plane.PagePlane.level_columns.Goals as goal

pub loop-c-init : goal.loop-c-init
loop-c-init c = (zero-le, unfold table in refl)

pub loop-c-preserved : goal.loop-c-preserved
loop-c-preserved c =
    let a = c.args in
    let p = a.self.now in
    let from = c.loop-c.c in
    let e = get_or a.ends.now from 0 in
    let n = c.chunk_end-to.result - from in
    let S : Plateau p.shear.now from e = c.requires.plateaus from zero-le (omega arith) in
    let k : e - from ≤ length (take n (drop from c.loop-c.out)) = simp (length-take, length-drop) (omega (arith, S.some, S.inside, c.chunk_end-to.ensures)) in (
      omega (arith, S.inside),
      plateau-put p.page.now p.fill p.sides.page_w p.sides.page_h p.shear.now a.r from e (length (take n (drop from c.loop-c.out))) n c.loop-c.out _ S k c.loop-c.invariant.1 c.level_plateau.ensures,
    )

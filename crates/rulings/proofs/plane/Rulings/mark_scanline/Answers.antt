use native.Mathlib.Omega.{arith}
use mathlib.Core.Path.{refl}
use Prim.Native.Nat.{◌+◌, ◌*◌}
use lib.ListN.{length, drop}
use Rattle.rulings.specs.stages.Sweeps.{widened_scanline, is_ruling}
use Rattle.extents.proofs.RunLaws.{starts-zero}
use Rattle.rulings.proofs.SweepLaws.{still_both, marked-none, unmarked-later, scanline-loop, scanline-end}
use Rattle.rulings.proofs.plane.Rulings.mark_scanline.Goals as goal

pub loop-x-init : goal.loop-x-init
loop-x-init c =
    let a = c.args in (
      omega arith,
      starts-zero (widened_scanline a.self.plane.sweep a.self.plane.ink.now a.o),
      marked-none a.self.plane.sweep (length a.self.plane.ink.now) (is_ruling a.self.plane.sweep a.self.plane.ink.now a.self.run_min a.self.thick_max) 1 (drop a.self.marks a.words.now) _ _ (λ i j li lj x y. absurd (omega arith)),
      c.requires.2,
      refl,
      λ e. refl,
    )

pub mark_from-walk-requires : goal.mark_from-walk-requires
mark_from-walk-requires c =
    let p = c.requires in
    let a = c.args in (
      p.0,
      omega arith,
      c.loop-x.invariant.1,
      unmarked-later a.self.plane.sweep (length a.self.plane.ink.now) (is_ruling a.self.plane.sweep a.self.plane.ink.now a.self.run_min a.self.thick_max) 1 (drop a.self.marks a.words.now) (drop a.self.marks c.loop-x.words) (a.o * a.self.plane.sweep.inner) (a.o * a.self.plane.sweep.inner + c.loop-x.x) (omega arith) c.loop-x.invariant.2 p.1,
      c.loop-x.invariant.3,
      omega (arith, c.loop-x.invariant.4, p.3),
    )

pub loop-x-preserved : goal.loop-x-preserved
loop-x-preserved c =
    let a = c.args in
    let w = c.mark_from-walk.ensures.0 in (
      w.inside,
      w.starts,
      scanline-loop a.self.plane.sweep a.self.plane.ink.now a.self.run_min a.self.thick_max 1 a.o c.loop-x.x c.mark_from-walk.result.to (drop a.self.marks a.words.now) (drop a.self.marks c.loop-x.words) _ c.loop-x.invariant.2 w,
      c.mark_from-walk.ensures.1,
      omega arith,
      still_both c.loop-x.found c.mark_from-walk.result.found _ (drop a.self.marks c.loop-x.words) _ c.loop-x.invariant.5 c.mark_from-walk.ensures.2,
    )

pub returns : goal.returns
returns c =
    let a = c.args in
    (scanline-end a.self.plane.sweep a.self.plane.ink.now a.self.run_min a.self.thick_max 1 a.o c.loop-x.x (drop a.self.marks a.words.now) (drop a.self.marks c.loop-x.words) c.loop-x.invariant.1 c.loop-x.invariant.0 (omega arith) c.loop-x.invariant.2, c.loop-x.invariant.3, c.loop-x.invariant.5)

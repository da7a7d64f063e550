use native.Mathlib.Omega.{arith}
use mathlib.Core.Path.{◌≡◌, ap, ◌∙◌}
use Prim.Native.Nat.{◌+◌, ◌-◌}
use lib.Dec.{leb}
use Rattle.extents.specs.rules.Extents.{extent}
use Rattle.rulings.specs.stages.Sweeps.{plane_of}
use Rattle.extents.proofs.RunLaws.{behind-le, ahead-le}
use Rattle.rulings.proofs.SweepLaws.{run-thin, cached-run}
use Rattle.rulings.proofs.plane.Plane.extent_across.Goals as goal

pub overflow_cast-cache : goal.overflow_cast-cache
overflow_cast-cache c =
    let a = c.args in
    let p = c.requires in
    let l = c.args.self.laid.low in
    let x = behind-le (plane_of a.self.sweep a.self.ink.now a.i) a.o in
    let y = ahead-le (plane_of a.self.sweep a.self.ink.now a.i) (a.o + 1) (a.self.sweep.outer - (a.o + 1)) in
    omega (arith, c.ink_before-before.ensures, c.ink_after-after.ensures)

pub returns : goal.returns
returns c =
    let a = c.args in
    let p = c.requires in
    let z : a.o + 0 ≡ a.o = omega arith in (
      run-thin a.self.sweep a.self.ink.now a.thick_max a.i a.o c.ink_before-before.result c.ink_after-after.result p.1 p.2 c.ink_before-before.ensures c.ink_after-after.ensures c.capped-thickness.result 0 c.capped-thickness.ensures (omega arith)
          ∙ ap (λ k. leb (extent (plane_of a.self.sweep a.self.ink.now a.i) a.self.sweep.outer k) a.thick_max) z,
      cached-run a.self.sweep a.self.ink.now a.thick_max a.i a.o c.ink_before-before.result c.ink_after-after.result p.1 p.2 c.ink_before-before.ensures c.ink_after-after.ensures a.cache.now c.capped-thickness.result p.0 c.capped-thickness.ensures p.3,
    )

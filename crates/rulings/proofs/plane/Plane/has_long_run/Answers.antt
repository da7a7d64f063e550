use Prim.Native.Nat.{◌+◌}
use native.Mathlib.Omega.{arith}
use Rattle.rulings.specs.stages.Sweeps.{widened_scanline}
use Rattle.extents.proofs.RunLaws.{starts-zero}
use Rattle.rulings.proofs.SweepLaws.{back-starts}
use Rattle.rulings.proofs.ColumnLaws.{short-all, short-to}
use Rattle.rulings.proofs.plane.Plane.has_long_run.Goals as goal

pub loop-x-init : goal.loop-x-init
loop-x-init c = let a = c.args in (omega arith, starts-zero (widened_scanline a.self.sweep a.self.ink.now a.o), λ i x. absurd (omega arith))

pub loop-x-preserved : goal.loop-x-preserved
loop-x-preserved c =
    let a = c.args in
    let B = c.run_start-start.ensures in
    let s = c.run_start-start.result in (
      let h = B.high in omega arith,
      back-starts (widened_scanline a.self.sweep a.self.ink.now a.o) c.loop-x.x (c.loop-x.x + a.run_min) s B c.if-start-x.false,
      short-to (widened_scanline a.self.sweep a.self.ink.now a.o) a.self.sweep.inner c.loop-x.x a.run_min s c.loop-x.invariant.1 B c.if-start-x.false c.loop-x.invariant.2,
    )

pub returns : goal.returns
returns c =
    let a = c.args in
    λ f. short-all a.self.sweep a.self.ink.now a.o c.loop-x.x a.run_min c.loop-x.invariant.1 (omega arith) c.loop-x.invariant.2

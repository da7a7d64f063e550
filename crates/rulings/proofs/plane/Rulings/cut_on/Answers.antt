use mathlib.Core.Bool.{not}
use mathlib.Core.Path.{ap}
use mathlib.Core.Bool.{true}
use native.Mathlib.Omega.{arith}
use lib.ListN.{length, drop}
use Rattle.rulings.specs.stages.Sweeps.{widened_scanline, is_thin}
use Rattle.extents.proofs.ExtentLaws.{scan-more}
use Rattle.rulings.proofs.SweepLaws.{still_both, test_on, run-loop}
use Rattle.rulings.proofs.plane.Rulings.cut_on.Goals as goal

pub loop-i-preserved : goal.loop-i-preserved
loop-i-preserved c =
    let p = c.requires in let a = c.args in (
      scan-more (widened_scanline a.self.plane.sweep a.self.plane.ink.now a.o) true a.from c.loop-i.i c.loop-i.invariant.0 (test_on _ _ c.is_widened.ensures (ap not c.if-not-is_widened.false)),
      run-loop a.self.plane.sweep (length a.self.plane.ink.now) (is_thin a.self.plane.sweep a.self.plane.ink.now a.self.thick_max) 1 (drop a.self.marks a.words.now) (drop a.self.marks c.loop-i.words) _ a.from c.loop-i.i a.o c.args.self.plane.laid (omega arith) (omega arith) p.0 p.2.room c.loop-i.invariant.1 c.cut_dot-found.ensures.0,
      c.cut_dot-found.ensures.1,
      omega arith,
      still_both c.loop-i.found c.cut_dot-found.result _ (drop a.self.marks c.loop-i.words) _ c.loop-i.invariant.4 c.cut_dot-found.ensures.2,
    )

use mathlib.Core.Path.{◌∙◌}
use native.Mathlib.Omega.{arith}
use lib.ListN.{drop, length}
use Rattle.rulings.specs.stages.Sweeps.{is_thin}
use Rattle.rulings.proofs.SweepLaws.{still_both, run-loop}
use Rattle.rulings.proofs.plane.Rulings.cut_places.Goals as goal

pub loop-i-preserved : goal.loop-i-preserved
loop-i-preserved c =
    let a = c.args in
    let p = c.requires in (
      run-loop a.self.plane.sweep (length a.self.plane.ink.now) (is_thin a.self.plane.sweep a.self.plane.ink.now a.self.thick_max) 2 (drop a.self.marks a.words.now) (drop a.self.marks c.loop-i.words) _ a.from c.loop-i.i a.o c.args.self.plane.laid (omega arith) (omega arith) p.0 p.3.room c.loop-i.invariant.0 c.cut_place-found.ensures.0,
      c.cut_place-found.ensures.1 ∙ c.loop-i.invariant.1,
      omega arith,
      still_both c.loop-i.found c.cut_place-found.result _ (drop a.self.marks c.loop-i.words) _ c.loop-i.invariant.3 c.cut_place-found.ensures.2,
    )

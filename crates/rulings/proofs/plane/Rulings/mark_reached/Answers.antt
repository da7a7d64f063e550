use Rattle.rulings.proofs.SweepLaws.{still_both}
use mathlib.Core.Path.{◌∙◌}
use Prim.Native.Nat.{◌+◌}
use native.Mathlib.Omega.{arith}
use lib.ListN.{drop}
use Rattle.rulings.proofs.ColumnLaws.{risen-scanlines}
use Rattle.rulings.proofs.plane.Rulings.mark_reached.Goals as goal

pub loop-o-preserved : goal.loop-o-preserved
loop-o-preserved c =
    let a = c.args in
    let p = c.requires in (
      risen-scanlines a.self.plane.sweep a.self.plane.ink.now a.self.run_min a.self.thick_max a.a c.loop-o.o (c.loop-o.o + 1) a.y (a.y + 1) (drop a.self.marks a.words.now) (drop a.self.marks c.loop-o.words) _ (omega arith) (omega arith) c.loop-o.invariant.0 c.mark_place-found.ensures.0,
      c.mark_place-found.ensures.1 ∙ c.loop-o.invariant.1,
      omega arith,
      still_both c.loop-o.found c.mark_place-found.result _ (drop a.self.marks c.loop-o.words) _ c.loop-o.invariant.3 c.mark_place-found.ensures.2,
    )

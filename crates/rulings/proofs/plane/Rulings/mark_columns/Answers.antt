use Rattle.rulings.proofs.SweepLaws.{still_both}
use mathlib.Core.Path.{◌≡◌, refl, subst}
use native.Mathlib.Omega.{arith}
use lib.ListN.{drop}
use Rattle.rulings.specs.stages.Sweeps.{Risen}
use Rattle.rulings.proofs.ColumnLaws.{risen-all, risen-scanlines, risen-short, risen-small}
use Rattle.rulings.proofs.plane.Rulings.mark_columns.Goals as goal

pub loop-a-init : goal.loop-a-init
loop-a-init c = let a = c.args in (omega arith, risen-short a.self.plane.sweep a.self.plane.ink.now a.self.run_min a.self.thick_max 0 0 (drop a.self.marks a.words.now) (λ o i x y z. absurd (omega arith)), refl, λ e. refl)

pub mark_strips-walk-requires : goal.mark_strips-walk-requires
mark_strips-walk-requires c =
    let a = c.args in
    let p = c.requires in
    (p.0, omega arith, risen-small a.self.plane.sweep a.self.plane.ink.now a.self.run_min a.self.thick_max 0 c.loop-a.a 0 a.self.plane.sweep.inner 2 (drop a.self.marks a.words.now) (drop a.self.marks c.loop-a.words) c.loop-a.invariant.1 p.1, omega (arith, c.loop-a.invariant.2, p.2))

pub loop-a-smaller : goal.loop-a-smaller
loop-a-smaller c = let e = c.mark_strips-walk.ensures in omega (arith, e.0, e.1)

pub loop-a-preserved : goal.loop-a-preserved
loop-a-preserved c =
    let a = c.args in
    let e = c.mark_strips-walk.ensures in
    (e.1, risen-scanlines a.self.plane.sweep a.self.plane.ink.now a.self.run_min a.self.thick_max 0 c.loop-a.a c.mark_strips-walk.result.to 0 a.self.plane.sweep.inner (drop a.self.marks a.words.now) (drop a.self.marks c.loop-a.words) _ (omega arith) (omega arith) c.loop-a.invariant.1 e.2, omega arith, still_both c.loop-a.found c.mark_strips-walk.result.found _ (drop a.self.marks c.loop-a.words) _ c.loop-a.invariant.3 e.3)

pub returns : goal.returns
returns c =
    let a = c.args in
    let e : c.loop-a.a ≡ a.self.plane.sweep.outer = omega arith in
    (risen-all a.self.plane.sweep a.self.plane.ink.now a.self.run_min a.self.thick_max (drop a.self.marks a.words.now) (drop a.self.marks c.loop-a.words) (subst (λ k. Risen a.self.plane.sweep a.self.plane.ink.now a.self.run_min a.self.thick_max 0 k 0 a.self.plane.sweep.inner (drop a.self.marks a.words.now) (drop a.self.marks c.loop-a.words)) e c.loop-a.invariant.1), c.loop-a.invariant.3)

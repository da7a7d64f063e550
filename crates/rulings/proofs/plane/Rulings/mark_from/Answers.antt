use native.Mathlib.Omega.{arith}
use mathlib.Core.Path.{◌≡◌, refl, subst}
use Prim.Native.Nat.{◌+◌, ◌*◌}
use lib.ListN.{length, drop}
use Rattle.rulings.specs.stages.Sweeps.{widened_scanline, is_thin, ScannedBack}
use Rattle.rulings.proofs.SweepLaws.{still_both, marked-trans, unmarked-later, walked-short, walked-long}
use Rattle.rulings.proofs.plane.Rulings.mark_from.Goals as goal

pub returns-then-x-start : goal.returns-then-x-start
returns-then-x-start c =
    let p = c.requires in
    let a = c.args in
    (walked-short a.self.plane.sweep a.self.plane.ink.now a.self.run_min a.self.thick_max 1 a.o a.x p.2 c.run_start-start.result (drop a.self.marks a.words.now) p.1 c.run_start-start.ensures c.if-x-start.true, p.4, λ e. refl)

pub cut_on-walk-requires : goal.cut_on-walk-requires
cut_on-walk-requires c =
    let p = c.requires in let a = c.args in
    let A = c.cut_run-found.ensures in
    let u = unmarked-later a.self.plane.sweep (length a.self.plane.ink.now) (is_thin a.self.plane.sweep a.self.plane.ink.now a.self.thick_max) 1 (drop a.self.marks a.words.now) (drop a.self.marks c.cut_run-found.new.words) (a.o * a.self.plane.sweep.inner + a.x) (a.o * a.self.plane.sweep.inner + (a.x + a.self.run_min)) (omega arith) A.0 p.3 in
    (p.0, p.1, u, A.1, omega (arith, c.cut_run-found.auto.words, p.5))

pub returns : goal.returns
returns c =
    let p = c.requires in let a = c.args in
    let B = c.run_start-start.ensures in
    let e : c.run_start-start.result ≡ a.x = (let l = B.low in omega arith) in
    let A = c.cut_run-found.ensures in
    let E = c.cut_on-walk.ensures in (
      walked-long a.self.plane.sweep a.self.plane.ink.now a.self.run_min a.self.thick_max 1 a.o a.x p.2 c.cut_on-walk.result.to (drop a.self.marks a.words.now) _ p.1 c.args.self.some
          (subst (λ s. ScannedBack (widened_scanline a.self.plane.sweep a.self.plane.ink.now a.o) a.x (a.x + a.self.run_min) s) e B) E.0
          (marked-trans a.self.plane.sweep (length a.self.plane.ink.now) (is_thin a.self.plane.sweep a.self.plane.ink.now a.self.thick_max) 1 (drop a.self.marks a.words.now) (drop a.self.marks c.cut_run-found.new.words) _ (a.o * a.self.plane.sweep.inner + a.x) (a.o * a.self.plane.sweep.inner + (a.x + a.self.run_min)) (a.o * a.self.plane.sweep.inner + c.cut_on-walk.result.to) (omega arith) (let l = E.0.low in omega arith) A.0 E.1),
      E.2,
      still_both c.cut_run-found.result c.cut_on-walk.result.found _ (drop a.self.marks c.cut_run-found.new.words) _ A.2 E.3,
    )

use mathlib.Core.Path.{◌≡◌, refl, subst}
use Prim.Native.Nat.{◌+◌, ◌<◌}
use native.Mathlib.Nat.{le_refl}
use native.Mathlib.Omega.{arith}
use lib.ListN.{drop}
use Rattle.extents.specs.rules.Extents.{behind}
use Rattle.rulings.specs.stages.Sweeps.{widened_scanline}
use Rattle.extents.proofs.RunLaws.{behind-le}
use Rattle.rulings.proofs.ColumnLaws.{risen-long, risen-still}
use Rattle.rulings.proofs.plane.Rulings.mark_place.Goals as goal

pub returns-then-run_min-since : goal.returns-then-run_min-since
returns-then-run_min-since c =
    let a = c.args in
    let p = c.requires in (
      risen-long a.self.plane.sweep a.self.plane.ink.now a.self.run_min a.self.thick_max a.y a.o a.y (drop a.self.marks a.words.now) _ p.0 p.1 c.args.self.some (omega (arith, p.3)) (le_refl _) (λ x. absurd (omega (arith, p.3))) (λ x. refl) c.cut_places.ensures.0,
      c.cut_places.ensures.1,
      c.cut_places.ensures.2,
    )

pub overflow_sub-from : goal.overflow_sub-from
overflow_sub-from c =
    let a = c.args in
    let p = c.requires in
    let b = behind-le (widened_scanline a.self.plane.sweep a.self.plane.ink.now a.o) (a.y + 1) in
    omega (arith, p.3)

pub returns-then-since-run_min : goal.returns-then-since-run_min
returns-then-since-run_min c =
    let a = c.args in
    let p = c.requires in
    let b = behind-le (widened_scanline a.self.plane.sweep a.self.plane.ink.now a.o) (a.y + 1) in (
      risen-long a.self.plane.sweep a.self.plane.ink.now a.self.run_min a.self.thick_max a.y a.o _ (drop a.self.marks a.words.now) _ p.0 p.1 c.args.self.some (omega (arith, p.3)) (omega (arith, c.args.self.some)) (λ x. omega (arith, p.3)) (λ x. absurd (omega (arith, p.3))) c.cut_places-then-since-run_min.ensures.0,
      c.cut_places-then-since-run_min.ensures.1,
      c.cut_places-then-since-run_min.ensures.2,
    )

pub returns : goal.returns
returns c =
    let a = c.args in
    let p = c.requires in
    let h : behind (widened_scanline a.self.plane.sweep a.self.plane.ink.now a.o) (a.y + 1) < a.self.run_min = omega (arith, p.3) in
    (risen-still a.self.plane.sweep a.self.plane.ink.now a.self.run_min a.self.thick_max a.o (a.o + 1) a.y (drop a.self.marks a.words.now) (λ q x y. subst (λ k. behind (widened_scanline a.self.plane.sweep a.self.plane.ink.now k) (a.y + 1) < a.self.run_min) (let z : a.o ≡ q = omega arith in z) h), refl, λ e. refl)

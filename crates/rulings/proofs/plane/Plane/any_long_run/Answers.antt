use Prim.Native.Nat.{ℕ, ◌+◌, ◌-◌, ◌<◌, ◌≤◌}
use mathlib.Core.Bool.{Bool, true, false, true≢false}
use mathlib.Core.Path.{◌≡◌, refl, subst, ◌∙◌}
use native.Mathlib.Omega.{arith}
use lib.ListN.{length}
use Rattle.std.proofs.Common.{rules, MatchBool}
use Rattle.std.specs.Bool.{⊤}
use Rattle.std.specs.List.{AllWithin, range_with_len}
use Rattle.std.proofs.lemmas.Iterator.{cases_from_any, YieldsList-from_range}
use Rattle.std.proofs.lemmas.List.FromFn.{get_or-range_with_len, length-range_with_len}
use Rattle.extents.specs.rules.Extents.{run_through}
use Rattle.rulings.specs.stages.Sweeps.{widened_scanline}
use Rattle.rulings.proofs.plane.Plane.any_long_run.Goals as goal

-- told false, P holds of each number of the range
each : (r : Bool) (W : Type 0) (P : ℕ → Type 0) (a n o : ℕ) → r ≡ false → MatchBool r W (AllWithin P (range_with_len a n) 0 (length (range_with_len a n))) → a ≤ o → o < a + n → P o
each true W P a n o f h x y = absurd (true≢false f)
each false W P a n o f h x y =
    let e : a + (o - a) ≡ o = omega arith in
    subst P (get_or-range_with_len a n (o - a) 0 (omega arith) ∙ e) (h (o - a) 0 (omega arith) (omega (arith, length-range_with_len a n)))

pub returns : goal.returns
returns c = λ f o i x y.
    let a = c.args in
    let short : ℕ → Type 0 = λ o. (i : ℕ) → i < a.self.sweep.inner → run_through (widened_scanline a.self.sweep a.self.ink.now o) a.self.sweep.inner i < a.run_min in
    let told = cases_from_any _ _ _ (λ o. ⊤) short c.any.ensures.ran (YieldsList-from_range a.a a.b (a.b - a.a) refl refl) (λ x q k. tt) (λ x q k. search rules) in
    each _ _ short a.a (a.b - a.a) o f told x (omega arith) i

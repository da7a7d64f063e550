-- A run is taken into a component at once: as its dots one after the other.
use mathlib.Core.Path.{◌≡◌, sym, ap, ◌∙◌}
use mathlib.Core.List.{[]}
use Prim.Native.Nat.{ℕ, zero, suc, ◌+◌, ◌-◌, ◌*◌, ◌/◌, ◌%◌, ◌≤◌, ◌<◌, min, max}
use native.Mathlib.Nat.{suc-mul, mul-suc, mul-add}
use native.Mathlib.Omega.{arith}
use Rattle.labelling.specs.rules.Components.{absorbed}
use Rattle.labelling.specs.stages.Absorbing.{column_sum, absorbed_run}
use Rattle.labelling.specs.declared.component.Component.{Component}
use Rattle.labelling.specs.stages.InkRuns.{absorb_dots}
use Rattle.labelling.proofs.TouchLaws.{row_same}

pub column_sum-closed : (x d : ℕ) → 2 * column_sum x d + d ≡ 2 * (d * x) + d * d
unfolding column_sum
column_sum-closed x zero = let e : 0 * x ≡ 0 = omega arith in let e₂ : 0 * 0 ≡ 0 = omega arith in omega arith
column_sum-closed x (suc d) =
    let ih = column_sum-closed x d in
    let e₁ : suc d * x ≡ d * x + x = suc-mul d x in
    let e₂ : suc d * suc d ≡ d * suc d + suc d = suc-mul d (suc d) in
    let e₃ : d * suc d ≡ d * d + d = mul-suc d d in
    omega arith

-- d steps on in a row, the column is d further
pub column-on : (w s d : ℕ) → 0 < w → s / w ≡ (s + d) / w → (s + d) % w ≡ s % w + d
column-on w s d hw e = let h = row_same w [] hw s (s + d) e in omega arith

pub absorb-run : (w s d : ℕ) (p : Component) → 0 < w → ((i : ℕ) → s ≤ i → i < s + suc d → i / w ≡ s / w) → absorb_dots w s (suc d) p ≡ absorbed_run p (s % w) d (s / w)
unfolding absorb_dots column_sum
absorb-run w s zero p hw h =
    let r = h (s + 0) (omega arith) (omega arith) in
    let c = column-on w s 0 hw (sym r) in
    let e₁ : min p.x0 ((s + 0) % w) ≡ min p.x0 (s % w) = omega arith in
    let e₂ : min p.y0 ((s + 0) / w) ≡ min p.y0 (s / w) = omega arith in
    let e₀ : max p.x1 ((s + 0) % w) ≡ max p.x1 (s % w + 0) = omega arith in
    let e₃ : max p.y1 ((s + 0) / w) ≡ max p.y1 (s / w) = omega arith in
    let e₄ : p.sum_x + (s + 0) % w ≡ p.sum_x + (0 + (s % w + 0)) = omega arith in
    let e₅ : p.sum_y + (s + 0) / w ≡ p.sum_y + 1 * (s / w) = omega arith in
    λ i. record { area = p.area + 1; x0 = e₁ i; y0 = e₂ i; x1 = e₀ i; y1 = e₃ i; sum_x = e₄ i; sum_y = e₅ i }
absorb-run w s (suc d) p hw h =
    let r = h (s + suc d) (omega arith) (omega arith) in
    let c₂ = column-on w s (suc d) hw (sym r) in
    let ih = absorb-run w s d p hw (λ i a b. h i a (omega arith)) in
    let q : suc (suc d) * (s / w) ≡ suc d * (s / w) + s / w = suc-mul (suc d) (s / w) in
    let e₀ : p.area + suc d + 1 ≡ p.area + suc (suc d) = omega arith in
    let e₁ : min (min p.x0 (s % w)) ((s + suc d) % w) ≡ min p.x0 (s % w) = omega arith in
    let e₂ : min (min p.y0 (s / w)) ((s + suc d) / w) ≡ min p.y0 (s / w) = omega arith in
    let e₃ : max (max p.x1 (s % w + d)) ((s + suc d) % w) ≡ max p.x1 (s % w + suc d) = omega arith in
    let e₄ : max (max p.y1 (s / w)) ((s + suc d) / w) ≡ max p.y1 (s / w) = omega arith in
    let e₅ : p.sum_x + (column_sum (s % w) d + (s % w + d)) + (s + suc d) % w ≡ p.sum_x + (column_sum (s % w) d + (s % w + d) + (s % w + suc d)) = omega arith in
    let e₆ : p.sum_y + suc d * (s / w) + (s + suc d) / w ≡ p.sum_y + suc (suc d) * (s / w) = omega arith in
    ap (λ t. absorbed t ((s + suc d) % w) ((s + suc d) / w)) ih
    ∙ (λ i. record { area = e₀ i; x0 = e₁ i; y0 = e₂ i; x1 = e₃ i; y1 = e₄ i; sum_x = e₅ i; sum_y = e₆ i })

-- the sum of the columns of a run: half of its dots times its first and last column
column-half : (x d : ℕ) → suc d * (x + (x + d)) / 2 ≡ column_sum x (suc d)
column-half x d =
    let c = column_sum-closed x (suc d) in
    let m₁ : suc d * (x + (x + d)) ≡ suc d * x + suc d * (x + d) = mul-add (suc d) x (x + d) in
    let m₂ : suc d * (x + d) ≡ suc d * x + suc d * d = mul-add (suc d) x d in
    let m₃ : suc d * suc d ≡ suc d * d + suc d = mul-suc (suc d) d in
    omega arith

-- the same by its ends
pub column-span : (x last : ℕ) → x ≤ last → (last - x + 1) * (x + last) / 2 ≡ column_sum x (suc (last - x))
column-span x last l =
    let d : last - x + 1 ≡ suc (last - x) = omega arith in
    let e : last ≡ x + (last - x) = omega arith in
    ap (λ z. z * (x + last) / 2) d ∙ (ap (λ z. suc (last - x) * (x + z) / 2) e ∙ column-half x (last - x))

-- Areas added up.
use mathlib.Core.Path.{◌≡◌, refl, sym, ap, ◌∙◌, subst}
use mathlib.Core.List.{List}
use Prim.Native.Nat.{ℕ, zero, suc, ◌+◌, ◌*◌, ◌≤◌, ◌<◌}
use native.Mathlib.Nat.{le_refl}
use native.Mathlib.Decide.{ℕ_discrete}
use native.Mathlib.Numerals.{add-one}
use native.Mathlib.Omega.{arith}
use lib.ListN.{get_or}
use Rattle.memory.specs.rules.Lists.{table, total}
use Rattle.sorting.proofs.Medians.{total-snoc}
use Rattle.sorting.specs.stages.Measures.{sized_at}

pub total-more : (f : ℕ → ℕ) (n : ℕ) → total (table f (suc n)) ≡ total (table f n) + f n
unfolding table
total-more f n = total-snoc (table f n) (f n)

total-up : (f : ℕ → ℕ) (k n : ℕ) → k ≤ n → total (table f k) ≤ total (table f n)
total-up f k zero l = subst (λ (z : ℕ). total (table f z) ≤ total (table f 0)) (let e : 0 ≡ k = omega arith in e) (le_refl (total (table f 0)))
total-up f k (suc n) l = go (λ h. total-up f k n h) (ℕ_discrete k (suc n))
  where
    go : (k ≤ n → total (table f k) ≤ total (table f n)) → Dec (k ≡ suc n) → total (table f k) ≤ total (table f (suc n))
    go ih (yes e) = subst (λ (z : ℕ). total (table f z) ≤ total (table f (suc n))) (sym e) (le_refl (total (table f (suc n))))
    go ih (no e) = let i = ih (omega arith) in let m = total-more f n in omega arith

module _ (s : List ℕ) (at : ℕ) where
  abbrev area_at : ℕ → ℕ
  area_at k = (sized_at s at k).area

  pub areas-none : 0 ≡ total (table area_at 0)
  unfolding table total
  areas-none = refl

  -- one area more
  pub areas-more : (k sum : ℕ) → sum ≡ total (table area_at k) → sum + get_or s (at + 5 * k) 0 ≡ total (table area_at (k + 1))
  unfolding sized_at
  areas-more k sum e =
      ap (λ (z : ℕ). z + get_or s (at + 5 * k) 0) e ∙ (sym (total-more area_at k) ∙ ap (λ (z : ℕ). total (table area_at z)) (sym (add-one k)))

  pub areas-fit : (k n sum : ℕ) → k < n → sum ≡ total (table area_at k) → sum + get_or s (at + 5 * k) 0 ≤ total (table area_at n)
  areas-fit k n sum l e = let a = areas-more k sum e in let b = total-up area_at (k + 1) n (omega arith) in omega arith

-- Path halving keeps a forest.
use mathlib.Core.Path.{◌≡◌, refl, sym, ap, ◌∙◌}
use mathlib.Core.List.{List}
use Prim.Native.Nat.{ℕ, ◌≤◌, ◌<◌}
use native.Mathlib.Nat.{le_refl, le_trans}
use native.Mathlib.Omega.{arith}
use lib.ListN.{get_or, length, set, length-set}
use Rattle.union_find.specs.stages.Forests.{Forest, Found}
use Rattle.union_find.proofs.ParentLaws.{at_set}

module _ (p : List ℕ) (i : ℕ) (li : i < length p) (ne : get_or p i 0 ≡ i → ⊥) where
  pub halve-down : get_or p i 0 ≤ i → get_or p (get_or p i 0) 0 ≤ get_or p i 0 → (j : ℕ) → get_or (set p i (get_or p (get_or p i 0) 0)) j 0 ≤ get_or p j 0
  halve-down a b = at_set (λ j v. v ≤ get_or p j 0) p i _ li b (λ j _. le_refl _)

  pub halve : (rep : ℕ → ℕ) (n : ℕ) → i < n → Forest rep p n → Forest rep (set p i (get_or p (get_or p i 0) 0)) n
  halve rep n l f =
      let a : get_or p i 0 ≤ i = f.down i l in
      let l' : get_or p i 0 < n = omega arith in
      let b : get_or p (get_or p i 0) 0 ≤ get_or p i 0 = f.down (get_or p i 0) l' in
      record {
        down = at_set (λ j v. j < n → v ≤ j) p i _ li (λ _. le_trans b a) (λ j _. f.down j);
        same = at_set (λ j v. j < n → rep v ≡ rep j) p i _ li (λ _. f.same _ l' ∙ f.same i l) (λ j _. f.same j);
        root = at_set (λ j v. j < n → v ≡ j → rep j ≡ j) p i _ li (λ _ e. absurd (ne (omega arith))) (λ j _. f.root j);
      }

-- the walk from x has come to i, whose parent is q
pub record Walk (p₀ p : List ℕ) (x i q : ℕ) : Type 0 where
  pub within : x < length p₀
  pub low : i ≤ x
  pub parent : q ≡ get_or p i 0
  pub len : length p ≡ length p₀
  pub tame : (j : ℕ) → j ≤ x → get_or p₀ j 0 ≤ j
  pub down : (j : ℕ) → get_or p j 0 ≤ get_or p₀ j 0
  pub keep : (rep : ℕ → ℕ) (n : ℕ) → x < n → n ≤ length p₀ → Forest rep p₀ n → Forest rep p n × (rep i ≡ rep x)

pub walk_start : (p : List ℕ) (x : ℕ) → x < length p → ((j : ℕ) → j ≤ x → get_or p j 0 ≤ j) → Walk p p x x (get_or p x 0)
walk_start p x l t = record { within = l; low = le_refl x; parent = refl; len = refl; tame = t; down = λ j. le_refl _; keep = λ rep n _ _ f. (f, refl) }

module _ {p₀ p : List ℕ} {x i q : ℕ} (h : Walk p₀ p x i q) where
  pub walk-low : q ≤ i
  walk-low = omega (arith, h.low, h.parent, h.down i, h.tame i h.low)

  pub walk-in : i < length p
  walk-in = omega (arith, h.low, h.within, h.len)

  pub walk-in' : q < length p
  walk-in' = omega (arith, walk-low, walk-in)

  pub walk-next : get_or p q 0 ≤ q
  walk-next = omega (arith, h.low, walk-low, h.down q, h.tame q (omega (arith, walk-low, h.low)))

  pub walk_step : (q ≡ i → ⊥) → Walk p₀ (set p i (get_or p q 0)) x (get_or p q 0) (get_or (set p i (get_or p q 0)) (get_or p q 0) 0)
  walk_step ne =
      let e : q ≡ get_or p i 0 = h.parent in
      let ne' : get_or p i 0 ≡ i → ⊥ = λ z. ne (e ∙ z) in
      let lo = walk-low in
      let li = walk-in in
      let nx = walk-next in
      let l = h.low in
      record {
        within = h.within;
        low = omega arith;
        parent = refl;
        len = simp length-set h.len;
        tame = h.tame;
        down = λ j. le_trans (rw e (halve-down p i li ne' (rw (← e) lo) (rw (← e) nx) j)) (h.down j);
        keep = λ rep n l₁ l₂ f.
            let k = h.keep rep n l₁ l₂ f in
            let l₃ : q < n = omega arith in
            let l₄ : i < n = omega arith in
            (rw e (halve p i li ne' rep n l₄ k.0), k.0.same q l₃ ∙ (ap rep e ∙ k.0.same i l₄) ∙ k.1);
      }

  pub walk-in₀ : i < length p₀
  walk-in₀ = omega (arith, walk-in, h.len)

  pub walk-in-q₀ : q < length p₀
  walk-in-q₀ = omega (arith, walk-in', h.len)

  pub walk_end : q ≡ i → Found p₀ p x i
  walk_end e =
      record {
        len = h.len;
        low = h.low;
        down = h.down;
        keep = λ rep n l₁ l₂ f. (h.keep rep n l₁ l₂ f).0;
        root = λ rep n l₁ l₂ f.
            let k = h.keep rep n l₁ l₂ f in
            let lo = h.low in
            sym (k.0.root i (omega arith) (sym h.parent ∙ e)) ∙ k.1;
      }

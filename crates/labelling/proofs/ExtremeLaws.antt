-- The least or the greatest of some numbers, found by meeting one after the other.
use mathlib.Core.Path.{◌≡◌, refl, sym, ap, ◌∙◌, subst}
use mathlib.Core.Bool.{Bool, true, false, cond, true≢false}
use mathlib.Core.Logic.{◌⊎◌, inl, inr, ⊎_elim}
use Prim.Native.Nat.{ℕ, zero, suc, ◌≤◌, ◌<◌, min, max}
use native.Mathlib.Nat.{le_refl, not-suc-le-zero}
use native.Mathlib.Decide.{ℕ_discrete, dec_le}
use native.Mathlib.Omega.{arith}

-- v stands in R to each f i, with i below n passing the test p, and is one of them where there is one
pub record Extreme (R : ℕ → ℕ → Type 0) (p : ℕ → Bool) (f : ℕ → ℕ) (n v : ℕ) : Type 0 where
  pub bound : (i : ℕ) → i < n → p i ≡ true → R v (f i)
  pub taken : (i : ℕ) → i < n → p i ≡ true → (j : ℕ) × (j < n) × (p j ≡ true) × (v ≡ f j)

abbrev pub Least : (ℕ → Bool) → (ℕ → ℕ) → ℕ → ℕ → Type 0
Least p f n v = Extreme (λ a b. a ≤ b) p f n v

abbrev pub Greatest : (ℕ → Bool) → (ℕ → ℕ) → ℕ → ℕ → Type 0
Greatest p f n v = Extreme (λ a b. b ≤ a) p f n v

pub min-either : (a b : ℕ) → (min a b ≡ a) ⊎ (min a b ≡ b)
min-either a b = go (dec_le a b)
  where
    go : Dec (a ≤ b) → (min a b ≡ a) ⊎ (min a b ≡ b)
    go (yes l) = inl (omega arith)
    go (no l) = inr (omega arith)

pub max-either : (a b : ℕ) → (max a b ≡ a) ⊎ (max a b ≡ b)
max-either a b = go (dec_le a b)
  where
    go : Dec (a ≤ b) → (max a b ≡ a) ⊎ (max a b ≡ b)
    go (yes l) = inr (omega arith)
    go (no l) = inl (omega arith)

-- one of the first n passes the test, or none does
some_or_none : (p : ℕ → Bool) (n : ℕ) → ((i : ℕ) × (i < n) × (p i ≡ true)) ⊎ ((i : ℕ) → i < n → p i ≡ true → ⊥)
some_or_none p zero = inr (λ i l. absurd (not-suc-le-zero l))
some_or_none p (suc n) = ⊎_elim (λ s. inl (s.0, (let q = s.1 in omega arith), s.2)) (λ h. go h (p n) refl) (some_or_none p n)
  where
    last : ((i : ℕ) → i < n → p i ≡ true → ⊥) → p n ≡ false → (i : ℕ) → i < suc n → p i ≡ true → Dec (i ≡ n) → ⊥
    last h e i l q (yes z) = true≢false (sym q ∙ (ap p z ∙ e))
    last h e i l q (no z) = h i (omega arith) q

    go : ((i : ℕ) → i < n → p i ≡ true → ⊥) → (b : Bool) → p n ≡ b → ((i : ℕ) × (i < suc n) × (p i ≡ true)) ⊎ ((i : ℕ) → i < suc n → p i ≡ true → ⊥)
    go h true e = inl (n, le_refl (suc n), e)
    go h false e = inr (λ i l q. last h e i l q (ℕ_discrete i n))

module _ (R : ℕ → ℕ → Type 0) (trans : (a b c : ℕ) → R a b → R b c → R a c) (o : ℕ → ℕ → ℕ) (left : (a b : ℕ) → R (o a b) a) (right : (a b : ℕ) → R (o a b) b)
    (either : (a b : ℕ) → (o a b ≡ a) ⊎ (o a b ≡ b)) (p : ℕ → Bool) (f X : ℕ → ℕ) where
  step-at : ((t : ℕ) → X (suc t) ≡ cond (p t) (o (X t) (f t)) (X t)) → (n : ℕ) (t : Bool) → p n ≡ t → X (suc n) ≡ cond t (o (X n) (f n)) (X n)
  step-at step n t e = step n ∙ ap (λ b. cond b (o (X n) (f n)) (X n)) e

  module _ (step : (t : ℕ) → X (suc t) ≡ cond (p t) (o (X t) (f t)) (X t)) where
    bound-to : (n i : ℕ) → i < n → p i ≡ true → R (X n) (f i)
    bound-to zero i l e = absurd (not-suc-le-zero l)
    bound-to (suc n) i l e = go (bound-to n i) (p n) refl (ℕ_discrete i n)
      where
        go : (i < n → p i ≡ true → R (X n) (f i)) → (t : Bool) → p n ≡ t → Dec (i ≡ n) → R (X (suc n)) (f i)
        go ih true q (yes z) = subst (λ v. R v (f i)) (sym (step-at step n true q)) (subst (λ j. R (o (X n) (f n)) (f j)) (sym z) (right (X n) (f n)))
        go ih false q (yes z) = absurd (true≢false (sym e ∙ (ap p z ∙ q)))
        go ih true q (no z) = subst (λ v. R v (f i)) (sym (step-at step n true q)) (trans (o (X n) (f n)) (X n) (f i) (left (X n) (f n)) (ih (omega arith) e))
        go ih false q (no z) = subst (λ v. R v (f i)) (sym (step-at step n false q)) (ih (omega arith) e)

    none_yet : (n : ℕ) → ((i : ℕ) → i < n → p i ≡ true → ⊥) → X n ≡ X 0
    none_yet zero h = refl
    none_yet (suc n) h = go (none_yet n (λ i l. h i (omega arith))) (p n) refl
      where
        go : X n ≡ X 0 → (b : Bool) → p n ≡ b → X (suc n) ≡ X 0
        go ih true e = absurd (h n (le_refl (suc n)) e)
        go ih false e = step-at step n false e ∙ ih

    taken-to : (n : ℕ) → ((t : ℕ) → t < n → o (X 0) (f t) ≡ f t) → (i : ℕ) → i < n → p i ≡ true → (j : ℕ) × (j < n) × (p j ≡ true) × (X n ≡ f j)
    taken-to zero unit i l e = absurd (not-suc-le-zero l)
    taken-to (suc n) unit i l e = go (taken-to n (λ t l. unit t (omega arith))) (p n) refl
      where
        go : ((i : ℕ) → i < n → p i ≡ true → (j : ℕ) × (j < n) × (p j ≡ true) × (X n ≡ f j)) → (t : Bool) → p n ≡ t → (j : ℕ) × (j < suc n) × (p j ≡ true) × (X (suc n) ≡ f j)
        go ih true q = ⊎_elim some none (some_or_none p n)
          where
            some : (i : ℕ) × (i < n) × (p i ≡ true) → (j : ℕ) × (j < suc n) × (p j ≡ true) × (X (suc n) ≡ f j)
            some s =
                let r = ih s.0 s.1 s.2 in
                ⊎_elim (λ z. (r.0, (let y = r.1 in omega arith), r.2, step-at step n true q ∙ (z ∙ r.3))) (λ z. (n, le_refl (suc n), q, step-at step n true q ∙ z)) (either (X n) (f n))

            none : ((i : ℕ) → i < n → p i ≡ true → ⊥) → (j : ℕ) × (j < suc n) × (p j ≡ true) × (X (suc n) ≡ f j)
            none h = (n, le_refl (suc n), q, step-at step n true q ∙ (ap (λ v. o v (f n)) (none_yet n h) ∙ unit n (le_refl (suc n))))
        go ih false q = last (ℕ_discrete i n)
          where
            last : Dec (i ≡ n) → (j : ℕ) × (j < suc n) × (p j ≡ true) × (X (suc n) ≡ f j)
            last (yes z) = absurd (true≢false (sym e ∙ (ap p z ∙ q)))
            last (no z) = let r = ih i (omega arith) e in (r.0, (let y = r.1 in omega arith), r.2, step-at step n false q ∙ r.3)

  pub extreme : (n : ℕ) → ((t : ℕ) → t < n → o (X 0) (f t) ≡ f t) → ((t : ℕ) → X (suc t) ≡ cond (p t) (o (X t) (f t)) (X t)) → Extreme R p f n (X n)
  extreme n unit step = record { bound = bound-to step n; taken = taken-to step n unit }

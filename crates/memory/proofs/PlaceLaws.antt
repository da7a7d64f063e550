-- The numbers below n that pass a test: how many, at which place of their list, how often in it.
use mathlib.Core.Path.{◌≡◌, refl, sym, ap, ◌∙◌, subst}
use mathlib.Core.Bool.{Bool, true, false, cond}
use mathlib.Core.List.{List, [], ◌∷◌, ◌++◌}
use Prim.Native.Nat.{ℕ, zero, suc, ◌+◌, ◌≤◌, ◌<◌}
use native.Mathlib.Nat.{not-suc-le-zero, le_refl}
use native.Mathlib.Decide.{ℕ_discrete, dec_lt}
use native.Mathlib.Omega.{arith}
use borrow.Author.Tests.{eq-eqb, ne_eqb}
use lib.ListN.{get_or, length, length-append, get_or-append}
use lib.Seq.{get_or_at}
use lib.Dec.{eqb}
use Rattle.memory.specs.rules.Lists.{table, upto, keep, count_if, occurs}
use Rattle.memory.proofs.ListLaws.{keep-snoc-yes, keep-snoc-no, upto-suc, Each}

pub occurs-append : (k : ℕ) (l m : List ℕ) → occurs k (l ++ m) ≡ occurs k l + occurs k m
unfolding occurs
occurs-append k [] m = let e : occurs k m ≡ 0 + occurs k m = omega arith in e
occurs-append k (a ∷ l) m = let e = occurs-append k l m in omega arith

pub occurs-same : (k : ℕ) (l : List ℕ) → occurs k (l ++ (k ∷ [])) ≡ occurs k l + 1
unfolding occurs
occurs-same k l = occurs-append k l (k ∷ []) ∙ rw (eq-eqb k k refl)

pub occurs-other : (k a : ℕ) (l : List ℕ) → (a ≡ k → ⊥) → occurs k (l ++ (a ∷ [])) ≡ occurs k l
unfolding occurs
occurs-other k a l n = occurs-append k l (a ∷ []) ∙ rw (ne_eqb a k n) (let e : occurs k l + 0 ≡ occurs k l = omega arith in e)

module _ (p : ℕ → Bool) where
  pub count_yes : (n : ℕ) → p n ≡ true → count_if p (suc n) ≡ suc (count_if p n)
  unfolding count_if
  count_yes n e = rw e (let z : count_if p n + 1 ≡ suc (count_if p n) = omega arith in z)

  pub count_no : (n : ℕ) → p n ≡ false → count_if p (suc n) ≡ count_if p n
  unfolding count_if
  count_no n e = rw e (let z : count_if p n + 0 ≡ count_if p n = omega arith in z)

  pub count-mono : (k n : ℕ) → k ≤ n → count_if p k ≤ count_if p n
  unfolding count_if
  count-mono k zero h = subst (λ z. count_if p z ≤ 0) (let e : 0 ≡ k = omega arith in e) (le_refl 0)
  count-mono k (suc n) h = go (λ l. count-mono k n l) (ℕ_discrete k (suc n))
    where
      go : (k ≤ n → count_if p k ≤ count_if p n) → Dec (k ≡ suc n) → count_if p k ≤ count_if p n + cond (p n) 1 0
      go ih (yes e) = subst (λ z. count_if p z ≤ count_if p n + cond (p n) 1 0) (sym e) (le_refl (count_if p (suc n)))
      go ih (no ne) = let i = ih (omega arith) in omega arith

  pub count-below : (k n : ℕ) → k < n → p k ≡ true → count_if p k < count_if p n
  count-below k n h e = let a = count-mono (suc k) n h in let b = count_yes k e in omega arith

  pub count-step : (n : ℕ) → count_if p (suc n) ≤ count_if p n + 1
  unfolding count_if
  count-step n = go (p n)
    where
      go : (t : Bool) → count_if p n + cond t 1 0 ≤ count_if p n + 1
      go true = le_refl _
      go false = omega arith

  pub count_low : (n : ℕ) → count_if p n ≤ n
  unfolding count_if
  count_low zero = le_refl 0
  count_low (suc n) = let ih = count_low n in let s = count-step n in omega arith

  -- each number up to the count is the count up to one that passes
  pub count-reach : (n k : ℕ) → k < count_if p n → (d : ℕ) × (d < n) × (p d ≡ true) × (count_if p (suc d) ≡ suc k)
  unfolding count_if
  count-reach zero k l = absurd (not-suc-le-zero l)
  count-reach (suc n) k l = go (dec_lt k (count_if p n)) (count-reach n k)
    where
      go : Dec (k < count_if p n) → (k < count_if p n → (d : ℕ) × (d < n) × (p d ≡ true) × (count_if p (suc d) ≡ suc k)) → (d : ℕ) × (d < suc n) × (p d ≡ true) × (count_if p (suc d) ≡ suc k)
      go (yes h) ih = let r = ih h in (r.0, (let x = r.1 in omega arith), r.2, r.3)
      go (no h) ih = last (p n) refl
        where
          last : (t : Bool) → p n ≡ t → (d : ℕ) × (d < suc n) × (p d ≡ true) × (count_if p (suc d) ≡ suc k)
          last true e = (n, le_refl (suc n), e, (let q = count_yes n e in let b = count-step n in omega arith))
          last false e = absurd (let q = count_no n e in omega arith)

  -- none passes
  pub count-zero : (n : ℕ) → count_if p n ≡ 0 → (i : ℕ) → i < n → p i ≡ false
  count-zero n e i l = go (p i) refl
    where
      go : (t : Bool) → p i ≡ t → t ≡ false
      go false q = refl
      go true q = absurd (let a = count-below i n l q in omega arith)

  -- all do
  pub count-full : (n : ℕ) → count_if p n ≡ n → (i : ℕ) → i < n → p i ≡ true
  unfolding count_if
  count-full zero e i l = absurd (not-suc-le-zero l)
  count-full (suc n) e i l = go (p n) refl (count-full n) (ℕ_discrete i n)
    where
      go : (t : Bool) → p n ≡ t → (count_if p n ≡ n → (i : ℕ) → i < n → p i ≡ true) → Dec (i ≡ n) → p i ≡ true
      go false q ih d = absurd (let z = count_no n q in let b = count_low n in omega arith)
      go true q ih (yes d) = ap p d ∙ q
      go true q ih (no d) = ih (let z = count_yes n q in omega arith) i (omega arith)

  -- as many as their list has
  pub count-length : (n : ℕ) → length (keep p (upto n)) ≡ count_if p n
  unfolding keep upto table count_if
  count-length zero = refl
  count-length (suc n) = go (p n) refl (count-length n)
    where
      go : (t : Bool) → p n ≡ t → length (keep p (upto n)) ≡ count_if p n → length (keep p (upto n ++ (n ∷ []))) ≡ count_if p (suc n)
      go true e i = ap length (keep-snoc-yes p (upto n) n e) ∙ (length-append (keep p (upto n)) (n ∷ []) ∙ (let y = count_yes n e in omega arith))
      go false e i = ap length (keep-snoc-no p (upto n) n e) ∙ (i ∙ sym (count_no n e))

  -- k stands where its count says
  pub count-place : (n k d : ℕ) → k < n → p k ≡ true → get_or (keep p (upto n)) (count_if p k) d ≡ k
  unfolding upto table
  count-place zero k d h y = absurd (not-suc-le-zero h)
  count-place (suc n) k d h y = go (λ l. count-place n k d l y) (p n) refl (ℕ_discrete k n)
    where
      go : (k < n → get_or (keep p (upto n)) (count_if p k) d ≡ k) → (t : Bool) → p n ≡ t → Dec (k ≡ n) → get_or (keep p (upto n ++ (n ∷ []))) (count_if p k) d ≡ k
      go ih true e (yes z) =
          ap (λ (l : List ℕ). get_or l (count_if p k) d) (keep-snoc-yes p (upto n) n e)
          ∙ (get_or_at (keep p (upto n)) n [] d (count_if p k) (count-length n ∙ ap (count_if p) (sym z)) ∙ sym z)
      go ih true e (no z) =
          ap (λ (l : List ℕ). get_or l (count_if p k) d) (keep-snoc-yes p (upto n) n e)
          ∙ (get_or-append (keep p (upto n)) (n ∷ []) d (count_if p k) (let a = count-below k n (omega arith) y in let b = count-length n in omega arith) ∙ ih (omega arith))
      go ih false e (yes z) = absurd (mathlib.Core.Bool.true≢false (sym y ∙ (ap p z ∙ e)))
      go ih false e (no z) = ap (λ (l : List ℕ). get_or l (count_if p k) d) (keep-snoc-no p (upto n) n e) ∙ ih (omega arith)

  -- what stands at place b passes, and b of them lie before it
  pub record Placed (n b k : ℕ) : Type 0 where
    pub below : k < n
    pub passes : p k ≡ true
    pub count : count_if p k ≡ b

  pub place-count : (n b d : ℕ) → b < count_if p n → Placed n b (get_or (keep p (upto n)) b d)
  unfolding upto table count_if
  place-count zero b d h = absurd (not-suc-le-zero h)
  place-count (suc n) b d h = go (λ l. place-count n b d l) (p n) refl
    where
      more : {k : ℕ} → Placed n b k → Placed (suc n) b k
      more r = record { below = (let z = r.below in omega arith); passes = r.passes; count = r.count }

      last : (b < count_if p n → Placed n b (get_or (keep p (upto n)) b d)) → p n ≡ true → Dec (b < count_if p n) → Placed (suc n) b (get_or (keep p (upto n) ++ (n ∷ [])) b d)
      last ih e (yes l) = subst (Placed (suc n) b) (sym (get_or-append (keep p (upto n)) (n ∷ []) d b (let z = count-length n in omega arith))) (more (ih l))
      last ih e (no l) =
          let z : b ≡ count_if p n = (let y = count_yes n e in omega arith) in
          subst (Placed (suc n) b) (sym (get_or_at (keep p (upto n)) n [] d b (count-length n ∙ sym z))) (record { below = le_refl (suc n); passes = e; count = sym z })

      go : (b < count_if p n → Placed n b (get_or (keep p (upto n)) b d)) → (t : Bool) → p n ≡ t → Placed (suc n) b (get_or (keep p (upto n ++ (n ∷ []))) b d)
      go ih true e = subst (λ (l : List ℕ). Placed (suc n) b (get_or l b d)) (sym (keep-snoc-yes p (upto n) n e)) (last ih e (dec_lt b (count_if p n)))
      go ih false e =
          subst (λ (l : List ℕ). Placed (suc n) b (get_or l b d)) (sym (keep-snoc-no p (upto n) n e)) (more (ih (let y = count_no n e in omega arith)))

  above-none : (n i : ℕ) → n ≤ i → occurs i (keep p (upto n)) ≡ 0
  unfolding upto table keep occurs
  above-none zero i h = refl
  above-none (suc n) i h = go (p n) refl (above-none n i (omega arith))
    where
      go : (t : Bool) → p n ≡ t → occurs i (keep p (upto n)) ≡ 0 → occurs i (keep p (upto n ++ (n ∷ []))) ≡ 0
      go true e z = ap (occurs i) (keep-snoc-yes p (upto n) n e) ∙ (occurs-other i n (keep p (upto n)) (λ q. omega arith) ∙ z)
      go false e z = ap (occurs i) (keep-snoc-no p (upto n) n e) ∙ z

  -- each number that passes stands in the list once, and no other does
  pub once : (n i : ℕ) → i < n → occurs i (keep p (upto n)) ≡ cond (p i) 1 0
  unfolding upto table
  once zero i h = absurd (not-suc-le-zero h)
  once (suc n) i h = go (λ l. once n i l) (p n) refl (ℕ_discrete n i)
    where
      go : (i < n → occurs i (keep p (upto n)) ≡ cond (p i) 1 0) → (t : Bool) → p n ≡ t → Dec (n ≡ i) → occurs i (keep p (upto n ++ (n ∷ []))) ≡ cond (p i) 1 0
      go ih true e (yes z) =
          ap (occurs i) (keep-snoc-yes p (upto n) n e)
          ∙ (subst (λ k. occurs k (keep p (upto n) ++ (n ∷ [])) ≡ cond (p k) 1 0) z (occurs-same n (keep p (upto n)) ∙ rw (e, above-none n n (le_refl n))))
      go ih true e (no z) = ap (occurs i) (keep-snoc-yes p (upto n) n e) ∙ (occurs-other i n (keep p (upto n)) z ∙ ih (omega arith))
      go ih false e (yes z) = ap (occurs i) (keep-snoc-no p (upto n) n e) ∙ (above-none n i (omega arith) ∙ subst (λ k. ◌≡◌ {A = ℕ} 0 (cond (p k) 1 0)) z (rw e))
      go ih false e (no z) = ap (occurs i) (keep-snoc-no p (upto n) n e) ∙ ih (omega arith)

-- none of the numbers from a up to b passes, so that they may be left out
pub record Gap (p : ℕ → Bool) (a b : ℕ) : Type 0 where
  pub ordered : a ≤ b
  pub none : (i : ℕ) → a ≤ i → i < b → p i ≡ false

kept-gap : (p : ℕ → Bool) (a b : ℕ) → a ≤ b → ((i : ℕ) → a ≤ i → i < b → p i ≡ false) → keep p (upto a) ≡ keep p (upto b)
kept-gap p a zero l none = ap (λ n. keep p (upto n)) (let e : a ≡ 0 = omega arith in e)
kept-gap p a (suc b) l none = go (λ k. kept-gap p a b k (λ i m n. none i m (omega arith))) (ℕ_discrete a (suc b))
  where
    go : (a ≤ b → keep p (upto a) ≡ keep p (upto b)) → Dec (a ≡ suc b) → keep p (upto a) ≡ keep p (upto (suc b))
    go ih (yes e) = ap (λ n. keep p (upto n)) e
    go ih (no ne) = ih (omega arith) ∙ (sym (keep-snoc-no p (upto b) b (none b (omega arith) (le_refl (suc b)))) ∙ ap (keep p) (sym (upto-suc b)))

pub keep-gap : {p : ℕ → Bool} {a b : ℕ} → Gap p a b → keep p (upto a) ≡ keep p (upto b)
keep-gap {p} {a} {b} g = kept-gap p a b g.ordered g.none

pub count-gap : {p : ℕ → Bool} {a b n : ℕ} → Gap p a b → n ≡ count_if p a → n ≡ count_if p b
count-gap {p} {a} {b} g e = e ∙ (sym (count-length p a) ∙ (ap length (keep-gap g) ∙ count-length p b))

pub occurs-length : (k : ℕ) (l : List ℕ) → occurs k l ≤ length l
unfolding occurs
occurs-length k [] = le_refl 0
occurs-length k (a ∷ l) = go (eqb a k) (occurs-length k l)
  where
    go : (t : Bool) → occurs k l ≤ length l → cond t 1 0 + occurs k l ≤ suc (length l)
    go true h = omega arith
    go false h = omega arith

pub absent : (m v : ℕ) (l : List ℕ) → Each (λ a. a < m) l → m ≤ v → occurs v l ≡ 0
unfolding occurs
absent m v [] h k = refl
absent m v (a ∷ l) (h, hs) k = rw (ne_eqb a v (λ e. omega arith)) (let e = absent m v l hs k in omega arith)

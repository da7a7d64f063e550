-- Counting: lists counted by place, and two counts that are equal because the counted numbers pair one to one.
use mathlib.Core.Path.{◌≡◌, refl, sym, ap, ◌∙◌}
use mathlib.Core.List.{List, [], ◌∷◌}
use mathlib.Core.Bool.{Bool, true, false, cond, ◌&&◌, not, true≢false}
use Prim.Native.Nat.{ℕ, zero, suc, ◌+◌, ◌<◌}
use native.Mathlib.Nat.{not-suc-le-zero, le_refl}
use native.Mathlib.Decide.{ℕ_discrete}
use native.Mathlib.Omega.{arith}
use borrow.Author.Tests.{eq-eqb, ne_eqb}
use lib.ListN.{get_or, length}
use lib.Seq.{ext_get_or}
use lib.Dec.{eqb}
use Rattle.memory.specs.rules.Lists.{table, count_if, occurs}
use Rattle.memory.proofs.TableLaws.{length-table, get_or-table}
use Rattle.memory.proofs.PlaceLaws.{occurs-append}

-- ---- lists counted by place
pub occurs-table : (k : ℕ) (f : ℕ → ℕ) (n : ℕ) → occurs k (table f n) ≡ count_if (λ i. eqb (f i) k) n
unfolding table count_if occurs
occurs-table k f zero = refl
occurs-table k f (suc n) = occurs-append k (table f n) (f n ∷ []) ∙ (let e = occurs-table k f n in omega arith)

pub list-is-table : (l : List ℕ) → l ≡ table (λ i. get_or l i 0) (length l)
list-is-table l = ext_get_or 0 l (table (λ i. get_or l i 0) (length l)) (sym (length-table (λ i. get_or l i 0) (length l))) (λ i k. sym (get_or-table (λ i. get_or l i 0) (length l) i 0 k))

pub occurs-by-place : (k : ℕ) (l : List ℕ) → occurs k l ≡ count_if (λ i. eqb (get_or l i 0) k) (length l)
occurs-by-place k l = ap (occurs k) (list-is-table l) ∙ occurs-table k (λ i. get_or l i 0) (length l)

-- ---- counts
pub count-ext : (p q : ℕ → Bool) (n : ℕ) → ((i : ℕ) → i < n → p i ≡ q i) → count_if p n ≡ count_if q n
unfolding count_if
count-ext p q zero h = refl
count-ext p q (suc n) h = λ i. count-ext p q n (λ k l. h k (omega arith)) i + cond (h n (le_refl (suc n)) i) 1 0

pub count_none : (p : ℕ → Bool) (n : ℕ) → ((i : ℕ) → i < n → p i ≡ false) → count_if p n ≡ 0
unfolding count_if
count_none p zero h = refl
count_none p (suc n) h = rw (count_none p n (λ k l. h k (omega arith)), h n (le_refl (suc n)))

-- p but not at z
abbrev but : (ℕ → Bool) → ℕ → ℕ → Bool
but p z i = p i && not (eqb i z)

and-true : (x : Bool) → (x && true) ≡ x
and-true true = refl
and-true false = refl

and-false : (x : Bool) → (x && false) ≡ false
and-false true = refl
and-false false = refl

but-other : (p : ℕ → Bool) (z i : ℕ) → (i ≡ z → ⊥) → but p z i ≡ p i
but-other p z i n = rw (ne_eqb i z n) (and-true (p i))

but-at : (p : ℕ → Bool) (z : ℕ) → but p z z ≡ false
but-at p z = rw (eq-eqb z z refl) (and-false (p z))

one_less : (p : ℕ → Bool) (z n : ℕ) → z < n → p z ≡ true → count_if p n ≡ suc (count_if (but p z) n)
unfolding count_if
one_less p z zero l e = absurd (not-suc-le-zero l)
one_less p z (suc n) l e = go (one_less p z n) (ℕ_discrete z n)
  where
    go : (z < n → p z ≡ true → count_if p n ≡ suc (count_if (but p z) n)) → Dec (z ≡ n) → count_if p n + cond (p n) 1 0 ≡ suc (count_if (but p z) n + cond (but p z n) 1 0)
    go ih (yes q) =
        let a : count_if p n ≡ count_if (but p z) n = count-ext p (but p z) n (λ i k. sym (but-other p z i (λ w. omega arith))) in
        let b : but p z n ≡ false = ap (but p z) (sym q) ∙ but-at p z in
        let c : p n ≡ true = ap p (sym q) ∙ e in
        rw (b, c) (omega (arith, a))
    go ih (no q) =
        let b : but p z n ≡ p n = but-other p z n (λ w. q (sym w)) in
        let a = ih (omega arith) e in
        ap (λ (t : ℕ). t + cond (p n) 1 0) a ∙ (ap (λ t. suc (count_if (but p z) n) + cond t 1 0) (sym b) ∙ (let s : suc (count_if (but p z) n) + cond (but p z n) 1 0 ≡ suc (count_if (but p z) n + cond (but p z n) 1 0) = omega arith in s))

-- the numbers below n that pass q and those below N that pass p pair one to one, by `place`
pub record Paired (place : ℕ → ℕ) (q : ℕ → Bool) (n : ℕ) (p : ℕ → Bool) (N : ℕ) : Type 0 where
  pub inside : (j : ℕ) → j < n → place j < N
  pub passes : (j : ℕ) → j < n → p (place j) ≡ q j
  pub reached : (i : ℕ) → i < N → p i ≡ true → (j : ℕ) × (j < n) × (place j ≡ i)
  pub apart : (j k : ℕ) → j < n → k < n → place j ≡ place k → j ≡ k

pub paired-counts : (place : ℕ → ℕ) (q : ℕ → Bool) (n : ℕ) (p : ℕ → Bool) (N : ℕ) → Paired place q n p N → count_if p N ≡ count_if q n
unfolding count_if
paired-counts place q zero p N C = count_none p N none
  where
    no : (i : ℕ) → i < N → (b : Bool) → p i ≡ b → b ≡ false
    no i l true e = absurd (not-suc-le-zero (C.reached i l e).1)
    no i l false e = refl

    none : (i : ℕ) → i < N → p i ≡ false
    none i l = no i l (p i) refl
paired-counts place q (suc n) p N C = go (q n) refl (λ (p' : ℕ → Bool). paired-counts place q n p' N)
  where
    z : ℕ
    z = place n

    -- the one whose place is i is not n
    less : (i : ℕ) → i < N → p i ≡ true → (i ≡ z → ⊥) → (j : ℕ) × (j < n) × (place j ≡ i)
    less i l e ne =
        let J = C.reached i l e in
        let d : J.0 ≡ n → ⊥ = λ w. ne (sym J.2 ∙ ap place w) in
        (J.0, fewer J.0 J.1 d, J.2)
      where
        fewer : (j : ℕ) → j < suc n → (j ≡ n → ⊥) → j < n
        fewer j l d = omega arith

    far : (j : ℕ) → j < n → place j ≡ z → ⊥
    far j l e = let w : j ≡ n = C.apart j n (omega arith) (le_refl (suc n)) e in omega arith

    go : (b : Bool) → q n ≡ b → ((p' : ℕ → Bool) → Paired place q n p' N → count_if p' N ≡ count_if q n) → count_if p N ≡ count_if q n + cond (q n) 1 0
    go true e ih =
        let pz : p z ≡ true = C.passes n (le_refl (suc n)) ∙ e in
        one_less p z N (C.inside n (le_refl (suc n))) pz
        ∙ (ap suc (ih (but p z) D) ∙ rw e (let s : suc (count_if q n) ≡ count_if q n + 1 = omega arith in s))
      where
        first : (a b : Bool) → (a && b) ≡ true → a ≡ true
        first true b f = refl
        first false b f = f

        second : (a : Bool) (i : ℕ) → (a && not (eqb i z)) ≡ true → i ≡ z → ⊥
        second a i f w = true≢false (sym f ∙ (ap (λ t. a && not t) (eq-eqb i z w) ∙ and-false a))

        D : Paired place q n (but p z) N
        D =
            record {
              inside = λ j l. C.inside j (omega arith);
              passes = λ j l. but-other p z (place j) (far j l) ∙ C.passes j (omega arith);
              reached = λ i l f. less i l (first (p i) (not (eqb i z)) f) (second (p i) i f);
              apart = λ j k a b. C.apart j k (omega arith) (omega arith);
            }
    go false e ih = ih p D ∙ rw e (let s : count_if q n ≡ count_if q n + 0 = omega arith in s)
      where
        D : Paired place q n p N
        D =
            record {
              inside = λ j l. C.inside j (omega arith);
              passes = λ j l. C.passes j (omega arith);
              reached = λ i l f. less i l f (λ w. true≢false (sym f ∙ (ap p w ∙ (C.passes n (le_refl (suc n)) ∙ e))));
              apart = λ j k a b. C.apart j k (omega arith) (omega arith);
            }

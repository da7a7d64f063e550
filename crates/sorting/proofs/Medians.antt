-- The median by counts: the element at a place of the sorted list is found by counting the entries below each value.
use mathlib.Core.Path.{◌≡◌, refl, sym, ap, ◌∙◌}
use mathlib.Core.List.{List, [], ◌∷◌, ◌++◌}
use mathlib.Core.Bool.{Bool, true, false, cond}
use Prim.Native.Nat.{ℕ, zero, suc, ◌+◌, ◌/◌, ◌≤◌, ◌<◌}
use native.Mathlib.Nat.{not-suc-le-zero, le_refl, le_trans}
use native.Mathlib.Decide.{ℕ_discrete, dec_le, dec_lt}
use native.Mathlib.Omega.{arith}
use borrow.Author.Tests.{lt-ltb, le-ltb, le-leb, lt-leb, eq-eqb, ne_eqb}
use lib.ListN.{get_or, length, take, get_or-eq_default}
use lib.Dec.{eqb, ltb, leb}
use lib.Seq.{take-suc}
use Rattle.memory.specs.rules.Lists.{insert_by, sort_by, occurs, total}
use Rattle.sorting.specs.rules.Units.{median}
use Rattle.sorting.specs.stages.Counts.{CountsOf}

-- how many entries lie below v
unfoldable pub below : ℕ → List ℕ → ℕ
below v [] = 0
below v (a ∷ l) = cond (ltb a v) 1 0 + below v l

-- a is at most each entry; each entry is at most those after it
abbrev pub Least : ℕ → List ℕ → Type 0
Least a [] = Unit
Least a (b ∷ l) = (a ≤ b) × Least a l

abbrev pub Ascending : List ℕ → Type 0
Ascending [] = Unit
Ascending (a ∷ l) = Least a l × Ascending l

least-le : (a b : ℕ) (l : List ℕ) → a ≤ b → Least b l → Least a l
least-le a b [] h k = tt
least-le a b (c ∷ l) h k = (le_trans h k.0, least-le a b l h k.1)

insert-least : (a b : ℕ) (l : List ℕ) → b ≤ a → Least b l → Least b (insert_by leb a l)
unfolding insert_by
insert-least a b [] h k = (h, tt)
insert-least a b (c ∷ l) h k = go (leb a c) (insert-least a b l h k.1)
  where
    go : (t : Bool) → Least b (insert_by leb a l) → Least b (cond t (a ∷ c ∷ l) (c ∷ insert_by leb a l))
    go true ih = (h, k)
    go false ih = (k.0, ih)

insert-ascending : (a : ℕ) (l : List ℕ) → Ascending l → Ascending (insert_by leb a l)
unfolding insert_by
insert-ascending a [] s = (tt, tt)
insert-ascending a (b ∷ l) s = go (dec_le a b) (insert-ascending a l s.1)
  where
    go : Dec (a ≤ b) → Ascending (insert_by leb a l) → Ascending (cond (leb a b) (a ∷ b ∷ l) (b ∷ insert_by leb a l))
    go (yes h) ih = rw (le-leb a b h) ((h, least-le a b l h s.0), s)
    go (no h) ih = rw (lt-leb a b (omega arith)) (insert-least a b l (omega arith) s.0, ih)

pub sort-ascending : (l : List ℕ) → Ascending (sort_by leb l)
unfolding sort_by
sort-ascending [] = tt
sort-ascending (a ∷ l) = insert-ascending a (sort_by leb l) (sort-ascending l)

insert-below : (v a : ℕ) (l : List ℕ) → below v (insert_by leb a l) ≡ cond (ltb a v) 1 0 + below v l
unfolding insert_by below
insert-below v a [] = refl
insert-below v a (b ∷ l) = go (leb a b) (insert-below v a l)
  where
    go : (t : Bool) → below v (insert_by leb a l) ≡ cond (ltb a v) 1 0 + below v l → below v (cond t (a ∷ b ∷ l) (b ∷ insert_by leb a l)) ≡ cond (ltb a v) 1 0 + (cond (ltb b v) 1 0 + below v l)
    go true ih = refl
    go false ih = omega (arith, ih)

pub below-sorted : (v : ℕ) (l : List ℕ) → below v (sort_by leb l) ≡ below v l
unfolding sort_by below
below-sorted v [] = refl
below-sorted v (a ∷ l) = insert-below v a (sort_by leb l) ∙ (let e = below-sorted v l in omega arith)

none_below : (v a : ℕ) (l : List ℕ) → v ≤ a → Least a l → below v l ≡ 0
unfolding below
none_below v a [] h k = refl
none_below v a (b ∷ l) h k = rw (le-ltb b v (le_trans h k.0), none_below v a l h k.1)

rank-ascending : (l : List ℕ) → Ascending l → (k v : ℕ) → below v l ≤ k → k < below (suc v) l → get_or l k 0 ≡ v
unfolding below
rank-ascending [] s k v h g = absurd (not-suc-le-zero g)
rank-ascending (a ∷ l) s zero v h g = go (dec_lt a v) (dec_lt v a)
  where
    go : Dec (a < v) → Dec (v < a) → a ≡ v
    go (yes c) d = absurd (let e = lt-ltb a v c in let h₂ : cond (ltb a v) 1 0 + below v l ≤ 0 = h in let h₃ : 1 + below v l ≤ 0 = rw e at h₂ in omega arith)
    go (no c) (yes d) = absurd (let e₁ = le-ltb a (suc v) d in let e₂ = none_below (suc v) a l d s.0 in let g₂ : 0 < cond (ltb a (suc v)) 1 0 + below (suc v) l = g in let g₃ : 0 < 0 + 0 = rw (e₁, e₂) at g₂ in omega arith)
    go (no c) (no d) = omega arith
rank-ascending (a ∷ l) s (suc k) v h g = rank-ascending l s.1 k v (go₁ (dec_lt a v)) (go₂ (dec_lt v a))
  where
    go₁ : Dec (a < v) → below v l ≤ k
    go₁ (yes c) = let h₂ : cond (ltb a v) 1 0 + below v l ≤ suc k = h in let h₃ : 1 + below v l ≤ suc k = rw (lt-ltb a v c) at h₂ in omega arith
    go₁ (no c) = let e = none_below v a l (omega arith) s.0 in omega arith

    go₂ : Dec (v < a) → k < below (suc v) l
    go₂ (yes d) = absurd (let g₂ : suc k < cond (ltb a (suc v)) 1 0 + below (suc v) l = g in let g₃ : suc k < 0 + 0 = rw (le-ltb a (suc v) d, none_below (suc v) a l d s.0) at g₂ in omega arith)
    go₂ (no d) = let g₂ : suc k < cond (ltb a (suc v)) 1 0 + below (suc v) l = g in let g₃ : suc k < 1 + below (suc v) l = rw (lt-ltb a (suc v) (omega arith)) at g₂ in omega arith

-- v stands at place k of the sorted list if at most k entries lie below v, and more than k at v or below
pub rank : (l : List ℕ) (k v : ℕ) → below v l ≤ k → k < below (suc v) l → get_or (sort_by leb l) k 0 ≡ v
rank l k v h g = rank-ascending (sort_by leb l) (sort-ascending l) k v (rw (below-sorted v l) h) (rw (below-sorted (suc v) l) g)

pub median-by-count : (l : List ℕ) (v : ℕ) → below v l ≤ length l / 2 → length l / 2 < below (suc v) l → median l ≡ v
unfolding median
median-by-count l v h g = rank l (length l / 2) v h g

-- Counts by value

below_suc : (v : ℕ) (l : List ℕ) → below (suc v) l ≡ below v l + occurs v l
unfolding below occurs
below_suc v [] = refl
below_suc v (a ∷ l) = go (dec_lt a v) (ℕ_discrete a v) (below_suc v l)
  where
    go : Dec (a < v) → Dec (a ≡ v) → below (suc v) l ≡ below v l + occurs v l → cond (ltb a (suc v)) 1 0 + below (suc v) l ≡ cond (ltb a v) 1 0 + below v l + (cond (eqb a v) 1 0 + occurs v l)
    go (yes c) d ih = rw (lt-ltb a (suc v) (omega arith), lt-ltb a v c, ne_eqb a v (λ e. omega arith)) (omega arith)
    go (no c) (yes d) ih = rw (lt-ltb a (suc v) (omega arith), le-ltb a v (omega arith), eq-eqb a v d) (omega arith)
    go (no c) (no d) ih = rw (le-ltb a (suc v) (omega arith), le-ltb a v (omega arith), ne_eqb a v d) (omega arith)

below-zero : (l : List ℕ) → below 0 l ≡ 0
unfolding below
below-zero [] = refl
below-zero (a ∷ l) = rw (le-ltb a 0 (omega arith)) (let e = below-zero l in omega arith)

pub total-snoc : (l : List ℕ) (a : ℕ) → total (l ++ (a ∷ [])) ≡ total l + a
unfolding total
total-snoc [] a = omega arith
total-snoc (b ∷ l) a = let e = total-snoc l a in omega arith

-- one count more
pub total-step : (counts : List ℕ) (v : ℕ) → v < length counts → total (take (suc v) counts) ≡ total (take v counts) + get_or counts v 0
total-step counts v l = ap total (take-suc counts v 0 l) ∙ total-snoc (take v counts) (get_or counts v 0)

-- the counts of the values below v add up to the entries below v
counts-below : (counts l : List ℕ) (n : ℕ) → CountsOf counts n l → (v : ℕ) → v ≤ length counts → below v l ≡ total (take v counts)
unfolding total
counts-below counts l n C zero h = below-zero l
counts-below counts l n C (suc v) h =
    let a = below_suc v l in
    let b = counts-below counts l n C v (omega arith) in
    let c = total-step counts v h in
    let d = C.each v in
    omega arith

all-below : (n : ℕ) (l : List ℕ) → ((v : ℕ) → n ≤ v → occurs v l ≡ 0) → below n l ≡ length l
unfolding below occurs
all-below n [] h = refl
all-below n (a ∷ l) h = go (all-below n l rest) (dec_lt a n)
  where
    rest : (v : ℕ) → n ≤ v → occurs v l ≡ 0
    rest v k = let e : cond (eqb a v) 1 0 + occurs v l ≡ 0 = h v k in omega arith

    go : below n l ≡ length l → Dec (a < n) → cond (ltb a n) 1 0 + below n l ≡ suc (length l)
    go ih (yes k) = rw (lt-ltb a n k) (omega arith)
    go ih (no k) = absurd (let e : cond (eqb a a) 1 0 + occurs a l ≡ 0 = h a (omega arith) in let f : 1 + occurs a l ≡ 0 = rw (eq-eqb a a refl) at e in omega arith)

-- where the counts up to v first pass half of the entries stands the median
pub counts-median : (counts l : List ℕ) (n v : ℕ) → CountsOf counts n l → v < length counts
    → total (take v counts) ≤ n / 2 → n / 2 < total (take v counts) + get_or counts v 0 → v ≡ median l
counts-median counts l n v C h low high =
    let a = counts-below counts l n C v (omega arith) in
    let b = counts-below counts l n C (suc v) h in
    let c = total-step counts v h in
    let e : n / 2 ≡ length l / 2 = ap (λ k. k / 2) (sym C.size) in
    sym (median-by-count l v (omega arith) (omega arith))

-- where they never do there is no entry
pub counts-none : (counts l : List ℕ) (n : ℕ) → CountsOf counts n l → total (take (length counts) counts) ≤ n / 2 → 0 ≡ median l
unfolding median sort_by
counts-none counts l n C h =
    let a = counts-below counts l n C (length counts) (le_refl (length counts)) in
    let b = all-below (length counts) l (λ v k. sym (C.each v) ∙ get_or-eq_default counts 0 k) in
    let c = C.size in
    let d : n / 2 < suc (n / 2) = omega arith in
    none l (omega arith)
  where
    none : (l : List ℕ) → length l ≡ 0 → 0 ≡ median l
    none [] e = refl
    none (a ∷ l) e = absurd (omega arith)

-- one value more
pub counts-loop : (counts : List ℕ) (v below : ℕ) → v < length counts → below ≡ total (take v counts) → below + get_or counts v 0 ≡ total (take (v + 1) counts)
counts-loop counts v below l e = let a = total-step counts v l in ap (λ k. k + get_or counts v 0) e ∙ (sym a ∙ ap (λ k. total (take k counts)) (let z : suc v ≡ v + 1 = omega arith in z))

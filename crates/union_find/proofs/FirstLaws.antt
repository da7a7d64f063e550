-- `firsts` names each class by its first, for any relation, and nothing else does.
use mathlib.Core.Path.{◌≡◌, refl, sym, ap, ◌∙◌, subst}
use mathlib.Core.List.{List, [], ◌∷◌, map}
use mathlib.Core.Bool.{Bool, true, false, true≢false}
use Prim.Native.Nat.{ℕ, zero, suc, ◌≤◌, ◌<◌, min, max}
use native.Mathlib.Nat.{le_refl, not-suc-le-zero, le_of_suc-le-suc}
use native.Mathlib.Decide.{ℕ_discrete, dec_lt, dec_le}
use native.Mathlib.Omega.{arith}
use borrow.Author.Tests.{eq-eqb, ne_eqb}
use lib.ListN.{get_or, length, length-map, get_or-eq_default}
use Rattle.memory.specs.rules.Lists.{table, upto}
use Rattle.union_find.specs.rules.Classes.{first_of, renamed, join, join_if, join_one, join_all, firsts}
use Rattle.union_find.specs.stages.Forests.{join_f}
use Rattle.union_find.specs.rules.Chains.{Chain, here, rise, fall, Firsts}
use Rattle.memory.proofs.TableLaws.{length-table, get_or-table}

-- Chains

pub chain-trans : {r : ℕ → ℕ → Bool} {n a b c : ℕ} → Chain r n a b → Chain r n b c → Chain r n a c
chain-trans here d = d
chain-trans (rise l k t c) d = rise l k t (chain-trans c d)
chain-trans (fall l k t c) d = fall l k t (chain-trans c d)

pub chain-sym : {r : ℕ → ℕ → Bool} {n a b : ℕ} → Chain r n a b → Chain r n b a
chain-sym here = here
chain-sym (rise l k t c) = chain-trans (chain-sym c) (fall l k t here)
chain-sym (fall l k t c) = chain-trans (chain-sym c) (rise l k t here)

-- Lists

pub get_or-mapped : (f : ℕ → ℕ) (l : List ℕ) (j d d' : ℕ) → j < length l → get_or (map f l) j d ≡ f (get_or l j d')
get_or-mapped f [] j d d' l = absurd (not-suc-le-zero l)
get_or-mapped f (x ∷ xs) zero d d' l = refl
get_or-mapped f (x ∷ xs) (suc j) d d' l = get_or-mapped f xs j d d' (le_of_suc-le-suc l)

-- Renaming

pub renamed-case : (P : ℕ → Type 0) (hi lo x : ℕ) → (x ≡ hi → P lo) → ((x ≡ hi → ⊥) → P x) → P (renamed hi lo x)
unfolding renamed
renamed-case P hi lo x f g = go (ℕ_discrete x hi)
  where
    go : Dec (x ≡ hi) → P (renamed hi lo x)
    go (yes e) = rw (eq-eqb x hi e) (f e)
    go (no n) = rw (ne_eqb x hi n) (g n)

pub join_f-a : (f : ℕ → ℕ) (a b : ℕ) → join_f f a b a ≡ min (f a) (f b)
join_f-a f a b = renamed-case (λ z. z ≡ min (f a) (f b)) (max (f a) (f b)) (min (f a) (f b)) (f a) (λ _. refl) (λ n. omega arith)

pub join_f-b : (f : ℕ → ℕ) (a b : ℕ) → join_f f a b b ≡ min (f a) (f b)
join_f-b f a b = renamed-case (λ z. z ≡ min (f a) (f b)) (max (f a) (f b)) (min (f a) (f b)) (f b) (λ _. refl) (λ n. omega arith)

-- the smaller of two is one of them
pub min-case : (P : ℕ → Type 0) (a b : ℕ) → P a → P b → P (min a b)
min-case P a b x y = go (dec_le a b)
  where
    go : Dec (a ≤ b) → P (min a b)
    go (yes l) = let e : min a b ≡ a = omega arith in rw e x
    go (no n) = let e : min a b ≡ b = omega arith in rw e y

pub max-case : (P : ℕ → Type 0) (a b : ℕ) → P a → P b → P (max a b)
max-case P a b x y = go (dec_le a b)
  where
    go : Dec (a ≤ b) → P (max a b)
    go (yes l) = let e : max a b ≡ b = omega arith in rw e y
    go (no n) = let e : max a b ≡ a = omega arith in rw e x

module _ (r : ℕ → ℕ → Bool) (n : ℕ) where
  -- each class is part of a class of r
  record Part (l : List ℕ) : Type 0 where
    len : length l ≡ n
    low : (j : ℕ) → first_of l j ≤ j
    sound : (j : ℕ) → Chain r n j (first_of l j)

  join-at : (l : List ℕ) → Part l → (a b : ℕ) → a < n → b < n → (j : ℕ) → first_of (join a b l) j ≡ join_f (first_of l) a b j
  unfolding join
  join-at l P a b la lb j = go (dec_lt j n)
    where
      go : Dec (j < n) → first_of (join a b l) j ≡ join_f (first_of l) a b j
      go (yes h) = get_or-mapped _ l j j j (omega (arith, P.len))
      go (no h) =
          let past : first_of l j ≡ j = get_or-eq_default l j (omega (arith, P.len)) in
          get_or-eq_default (map (renamed (max (first_of l a) (first_of l b)) (min (first_of l a) (first_of l b))) l) j (rw length-map (omega (arith, P.len)))
          ∙ sym (rw past (renamed-case (λ z. z ≡ j) (max (first_of l a) (first_of l b)) (min (first_of l a) (first_of l b)) j (λ e. absurd (let h₁ = P.low a in let h₂ = P.low b in omega arith)) (λ _. refl)))

  join-len : (a b : ℕ) (l : List ℕ) → length (join a b l) ≡ length l
  unfolding join
  join-len a b l = length-map l _

  -- a chain from a to b is_first from the one name to the other
  join-part : (l : List ℕ) → Part l → (a b : ℕ) → a < n → b < n → Chain r n a b → Part (join a b l)
  join-part l P a b la lb t =
      record {
        len = join-len a b l ∙ P.len;
        low = λ j. rw (e j) (renamed-case (λ z. z ≤ j) (max (first_of l a) (first_of l b)) (min (first_of l a) (first_of l b)) (first_of l j) (λ q. let h = P.low j in omega arith) (λ _. P.low j));
        sound = λ j. rw (e j)
            (renamed-case (λ z. Chain r n j z) (max (first_of l a) (first_of l b)) (min (first_of l a) (first_of l b)) (first_of l j)
            (λ q. chain-trans (subst (λ k. Chain r n j k) q (P.sound j)) (chain-trans (chain-sym (max-case (λ z. Chain r n a z) (first_of l a) (first_of l b) A B)) (min-case (λ z. Chain r n a z) (first_of l a) (first_of l b) A B)))
            (λ _. P.sound j));
      }
    where
      e : (j : ℕ) → first_of (join a b l) j ≡ join_f (first_of l) a b j
      e = join-at l P a b la lb

      A : Chain r n a (first_of l a)
      A = P.sound a

      B : Chain r n a (first_of l b)
      B = chain-trans t (P.sound b)

  -- l' has l's classes, or unions of them
  record Grown (l l' : List ℕ) : Type 0 where
    part : Part l'
    keep : (c d : ℕ) → first_of l c ≡ first_of l d → first_of l' c ≡ first_of l' d

  join_if-ok : (l : List ℕ) → Part l → (a b : ℕ) → b < a → a < n → (t : Bool) → r b a ≡ t → Grown l (join_if t a b l) × (r b a ≡ true → first_of (join_if t a b l) b ≡ first_of (join_if t a b l) a)
  unfolding join_if
  join_if-ok l P a b k la true e =
      let z = join-at l P a b la (omega arith) in (
        record {
          part = join-part l P a b la (omega arith) (fall k la e here);
          keep = λ c d q. z c ∙ (ap (renamed (max (first_of l a) (first_of l b)) (min (first_of l a) (first_of l b))) q ∙ sym (z d));
        },
        λ _. z b ∙ (join_f-b (first_of l) a b ∙ sym (z a ∙ join_f-a (first_of l) a b)),
      )
  join_if-ok l P a b k la false e = (record { part = P; keep = λ c d q. q }, λ t. absurd (true≢false (sym t ∙ e)))

  join_one-ok : (l : List ℕ) → Part l → (a : ℕ) → a < n → (b : ℕ) → b ≤ a → Grown l (join_one r a b l) × ((d : ℕ) → d < b → r d a ≡ true → first_of (join_one r a b l) d ≡ first_of (join_one r a b l) a)
  unfolding join_one
  join_one-ok l P a la zero h = (record { part = P; keep = λ c d q. q }, λ d k. absurd (not-suc-le-zero k))
  join_one-ok l P a la (suc b) h =
      let ih = join_one-ok l P a la b (omega arith) in
      let J = join_if-ok (join_one r a b l) ih.0.part a b (omega arith) la (r b a) refl in (
        record { part = J.0.part; keep = λ c d q. J.0.keep c d (ih.0.keep c d q) },
        λ d k t. last l a b ih.1 J.0.keep J.1 d k t (ℕ_discrete d b),
      )
    where
      last : (l : List ℕ) (a b : ℕ)
          → ((d : ℕ) → d < b → r d a ≡ true → first_of (join_one r a b l) d ≡ first_of (join_one r a b l) a)
          → ((c d : ℕ) → first_of (join_one r a b l) c ≡ first_of (join_one r a b l) d → first_of (join_if (r b a) a b (join_one r a b l)) c ≡ first_of (join_if (r b a) a b (join_one r a b l)) d)
          → (r b a ≡ true → first_of (join_if (r b a) a b (join_one r a b l)) b ≡ first_of (join_if (r b a) a b (join_one r a b l)) a)
          → (d : ℕ) → d < suc b → r d a ≡ true → Dec (d ≡ b) → first_of (join_if (r b a) a b (join_one r a b l)) d ≡ first_of (join_if (r b a) a b (join_one r a b l)) a
      last l a b ih keep new d k t (yes e) = subst (λ z. first_of (join_if (r b a) a b (join_one r a b l)) z ≡ first_of (join_if (r b a) a b (join_one r a b l)) a) (sym e) (new (subst (λ z. r z a ≡ true) e t))
      last l a b ih keep new d k t (no ne) = keep d a (ih d (omega arith) t)

  join_all-ok : (l : List ℕ) → Part l → (a : ℕ) → a ≤ n → Part (join_all r a l) × ((c d : ℕ) → c < d → d < a → r c d ≡ true → first_of (join_all r a l) c ≡ first_of (join_all r a l) d)
  unfolding join_all
  join_all-ok l P zero h = (P, λ c d k k₂. absurd (not-suc-le-zero k₂))
  join_all-ok l P (suc a) h =
      let ih = join_all-ok l P a (omega arith) in
      let J = join_one-ok (join_all r a l) ih.0 a (omega arith) a (le_refl a) in
      (J.0.part, λ c d k k₂ t. last l a ih.1 J.0.keep J.1 c d k k₂ t (ℕ_discrete d a))
    where
      last : (l : List ℕ) (a : ℕ)
          → ((c d : ℕ) → c < d → d < a → r c d ≡ true → first_of (join_all r a l) c ≡ first_of (join_all r a l) d)
          → ((c d : ℕ) → first_of (join_all r a l) c ≡ first_of (join_all r a l) d → first_of (join_one r a a (join_all r a l)) c ≡ first_of (join_one r a a (join_all r a l)) d)
          → ((d : ℕ) → d < a → r d a ≡ true → first_of (join_one r a a (join_all r a l)) d ≡ first_of (join_one r a a (join_all r a l)) a)
          → (c d : ℕ) → c < d → d < suc a → r c d ≡ true → Dec (d ≡ a) → first_of (join_one r a a (join_all r a l)) c ≡ first_of (join_one r a a (join_all r a l)) d
      last l a ih keep new c d k k₂ t (yes e) = subst (λ z. first_of (join_one r a a (join_all r a l)) c ≡ first_of (join_one r a a (join_all r a l)) z) (sym e) (new c (omega arith) (subst (λ z. r c z ≡ true) e t))
      last l a ih keep new c d k k₂ t (no ne) = keep c d (ih c d k (omega arith) t)

  upto-at : (j : ℕ) → first_of (upto n) j ≡ j
  unfolding upto
  upto-at j = go (dec_lt j n)
    where
      go : Dec (j < n) → first_of (upto n) j ≡ j
      go (yes h) = get_or-table (λ i. i) n j j h
      go (no h) = get_or-eq_default (table (λ i. i) n) j (let e = length-table (λ (i : ℕ). i) n in omega arith)

  upto-len : length (upto n) ≡ n
  unfolding upto
  upto-len = length-table (λ (i : ℕ). i) n

  upto-part : Part (upto n)
  upto-part =
      record {
        len = upto-len;
        low = λ j. omega (arith, upto-at j);
        sound = λ j. rw (upto-at j) here;
      }

  pub firsts-right : Firsts r n (first_of (firsts r n))
  unfolding firsts
  firsts-right =
      let J = join_all-ok (upto n) upto-part n (le_refl n) in
      record { low = J.0.low; sound = J.0.sound; full = J.1 }

-- all of a chain has one first
pub along : {r : ℕ → ℕ → Bool} {n : ℕ} {f : ℕ → ℕ} → Firsts r n f → {a b : ℕ} → Chain r n a b → f a ≡ f b
along F here = refl
along F (rise l k t c) = F.full _ _ l k t ∙ along F c
along F (fall l k t c) = sym (F.full _ _ l k t) ∙ along F c

-- so a union-find that has these three facts gives what the definition gives
pub firsts-unique : {r : ℕ → ℕ → Bool} {n : ℕ} (f g : ℕ → ℕ) → Firsts r n f → Firsts r n g → (j : ℕ) → f j ≡ g j
firsts-unique f g F G j =
    let e₁ : g j ≡ g (f j) = along G (F.sound j) in
    let e₂ : f j ≡ f (g j) = along F (G.sound j) in
    let h₁ = G.low (f j) in
    let h₂ = F.low (g j) in
    omega arith

-- two numbers have one first just where a chain is_first from one to the other
pub firsts-chain : {r : ℕ → ℕ → Bool} {n : ℕ} {f : ℕ → ℕ} → Firsts r n f → (a b : ℕ) → f a ≡ f b → Chain r n a b
firsts-chain {r} {n} F a b e = chain-trans (subst (λ z. Chain r n a z) e (F.sound a)) (chain-sym (F.sound b))

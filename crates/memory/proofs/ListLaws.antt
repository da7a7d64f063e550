-- Lists of those that pass a test, and lists whose entries all have a property.
use mathlib.Core.Path.{◌≡◌, refl, sym, ap, ◌∙◌}
use mathlib.Core.Bool.{Bool, true, false, cond}
use mathlib.Core.List.{List, [], ◌∷◌, ◌++◌, map}
use Prim.Native.Nat.{ℕ, zero, suc, ◌≤◌, ◌<◌}
use native.Mathlib.Nat.{not-suc-le-zero, le_of_suc-le-suc, le_refl}
use native.Mathlib.Omega.{arith}
use lib.ListN.{get_or, length, length-append}
use Rattle.memory.specs.rules.Lists.{table, upto, keep, insert_by, sort_by}

pub keep-yes : {A : Type 0} (p : A → Bool) (a : A) (l : List A) → p a ≡ true → keep p (a ∷ l) ≡ a ∷ keep p l
unfolding keep
keep-yes p a l e = rw e

pub keep-no : {A : Type 0} (p : A → Bool) (a : A) (l : List A) → p a ≡ false → keep p (a ∷ l) ≡ keep p l
unfolding keep
keep-no p a l e = rw e

pub keep_append : {A : Type 0} (p : A → Bool) (l m : List A) → keep p (l ++ m) ≡ keep p l ++ keep p m
unfolding keep
keep_append p [] m = refl
keep_append {A} p (a ∷ l) m = go (p a) (keep_append p l m)
  where
    go : (t : Bool) → keep p (l ++ m) ≡ keep p l ++ keep p m → cond t (a ∷ keep p (l ++ m)) (keep p (l ++ m)) ≡ cond t (a ∷ keep p l) (keep p l) ++ keep p m
    go true e = ap (λ (r : List A). a ∷ r) e
    go false e = e

-- one more entry at the end
pub keep-snoc-yes : {A : Type 0} (p : A → Bool) (l : List A) (a : A) → p a ≡ true → keep p (l ++ (a ∷ [])) ≡ keep p l ++ (a ∷ [])
unfolding keep
keep-snoc-yes {A} p l a e = keep_append p l (a ∷ []) ∙ ap (λ (r : List A). keep p l ++ r) (keep-yes p a [] e)

pub keep-snoc-no : {A : Type 0} (p : A → Bool) (l : List A) (a : A) → p a ≡ false → keep p (l ++ (a ∷ [])) ≡ keep p l
unfolding keep
keep-snoc-no {A} p l a e = keep_append p l (a ∷ []) ∙ (ap (λ (r : List A). keep p l ++ r) (keep-no p a [] e) ∙ mathlib.Core.List.append-nil (keep p l))

pub upto-suc : (n : ℕ) → upto (suc n) ≡ upto n ++ (n ∷ [])
unfolding upto table
upto-suc n = refl

-- each entry has the property
abbrev pub Each : {A : Type 0} → (A → Type 0) → List A → Type 0
Each P [] = Unit
Each P (a ∷ l) = P a × Each P l

pub each_at : {A : Type 0} (P : A → Type 0) (l : List A) → Each P l → (i : ℕ) (d : A) → i < length l → P (get_or l i d)
each_at P [] h i d k = absurd (not-suc-le-zero k)
each_at P (a ∷ l) h zero d k = h.0
each_at P (a ∷ l) h (suc i) d k = each_at P l h.1 i d (le_of_suc-le-suc k)

pub each_keep : {A : Type 0} (P : A → Type 0) (p : A → Bool) → ((a : A) → p a ≡ true → P a) → (l : List A) → Each P (keep p l)
unfolding keep
each_keep P p f [] = tt
each_keep {A} P p f (a ∷ l) = go (p a) refl (each_keep P p f l)
  where
    go : (t : Bool) → p a ≡ t → Each P (keep p l) → Each P (cond t (a ∷ keep p l) (keep p l))
    go true e h = (f a e, h)
    go false e h = h

pub each-insert : {A : Type 0} (P : A → Type 0) (precedes : A → A → Bool) (a : A) (l : List A) → P a → Each P l → Each P (insert_by precedes a l)
unfolding insert_by
each-insert P precedes a [] h k = (h, tt)
each-insert {A} P precedes a (b ∷ l) h k = go (precedes a b) (each-insert P precedes a l h k.1)
  where
    go : (t : Bool) → Each P (insert_by precedes a l) → Each P (cond t (a ∷ b ∷ l) (b ∷ insert_by precedes a l))
    go true ih = (h, k)
    go false ih = (k.0, ih)

pub each-sort : {A : Type 0} (P : A → Type 0) (precedes : A → A → Bool) (l : List A) → Each P l → Each P (sort_by precedes l)
unfolding sort_by
each-sort P precedes [] h = tt
each-sort P precedes (a ∷ l) h = each-insert P precedes a (sort_by precedes l) h.0 (each-sort P precedes l h.1)

pub each_append : {A : Type 0} (P : A → Type 0) (l m : List A) → Each P l → Each P m → Each P (l ++ m)
each_append P [] m h k = k
each_append P (a ∷ l) m (h, hs) k = (h, each_append P l m hs k)

pub each_snoc : {A : Type 0} (P : A → Type 0) (l : List A) (a : A) → Each P l → P a → Each P (l ++ (a ∷ []))
each_snoc P l a h k = each_append P l (a ∷ []) h (k, tt)

pub each-table : {A : Type 0} (P : A → Type 0) (f : ℕ → A) (n : ℕ) → ((i : ℕ) → i < n → P (f i)) → Each P (table f n)
unfolding table
each-table P f zero h = tt
each-table P f (suc n) h = each_snoc P (table f n) (f n) (each-table P f n (λ i l. h i (omega arith))) (h n (le_refl (suc n)))

pub map-append : {A B : Type 0} (f : A → B) (l m : List A) → map f (l ++ m) ≡ map f l ++ map f m
map-append f [] m = refl
map-append {A} {B} f (a ∷ l) m = ap (λ (t : List B). f a ∷ t) (map-append f l m)

pub map-table : {A B : Type 0} (f : A → B) (g : ℕ → A) (n : ℕ) → map f (table g n) ≡ table (λ i. f (g i)) n
unfolding table
map-table f g zero = refl
map-table {A} {B} f g (suc n) = map-append f (table g n) (g n ∷ []) ∙ ap (λ (t : List B). t ++ (f (g n) ∷ [])) (map-table f g n)

-- no more pass than there are
pub keep-few : (p : ℕ → Bool) (n : ℕ) → length (keep p (upto n)) ≤ n
unfolding keep upto table
keep-few p zero = le_refl 0
keep-few p (suc n) = go (p n) refl (keep-few p n)
  where
    go : (t : Bool) → p n ≡ t → length (keep p (upto n)) ≤ n → length (keep p (upto n ++ (n ∷ []))) ≤ suc n
    go true e h = rw (keep-snoc-yes p (upto n) n e) (let z = length-append (keep p (upto n)) (n ∷ []) in omega arith)
    go false e h = rw (keep-snoc-no p (upto n) n e) (omega arith)

-- the test is asked only below n
pub keep_same : (p q : ℕ → Bool) (n : ℕ) → ((x : ℕ) → x < n → p x ≡ q x) → keep p (upto n) ≡ keep q (upto n)
unfolding keep upto table
keep_same p q zero h = refl
keep_same p q (suc n) h = go (q n) refl (keep_same p q n (λ x l. h x (omega arith)))
  where
    go : (t : Bool) → q n ≡ t → keep p (upto n) ≡ keep q (upto n) → keep p (upto n ++ (n ∷ [])) ≡ keep q (upto n ++ (n ∷ []))
    go true e i = keep-snoc-yes p (upto n) n (h n (le_refl (suc n)) ∙ e) ∙ (ap (λ (t : List ℕ). t ++ (n ∷ [])) i ∙ sym (keep-snoc-yes q (upto n) n e))
    go false e i = keep-snoc-no p (upto n) n (h n (le_refl (suc n)) ∙ e) ∙ (i ∙ sym (keep-snoc-no q (upto n) n e))

pub get_or-mapped : {A B : Type 0} (f : A → B) (l : List A) (i : ℕ) (d : B) (e : A) → i < length l → get_or (map f l) i d ≡ f (get_or l i e)
get_or-mapped f [] i d e h = absurd (not-suc-le-zero h)
get_or-mapped f (a ∷ l) zero d e h = refl
get_or-mapped f (a ∷ l) (suc i) d e h = get_or-mapped f l i d e (le_of_suc-le-suc h)

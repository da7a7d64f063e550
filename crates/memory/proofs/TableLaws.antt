-- A table and its entries; a loop that fills one.
use mathlib.Core.Path.{◌≡◌, refl, sym, ap, ◌∙◌}
use mathlib.Core.List.{List, [], ◌∷◌, ◌++◌, append-nil}
use Prim.Native.Nat.{ℕ, zero, suc, ◌+◌, ◌<◌}
use native.Mathlib.Nat.{not-suc-le-zero, le_of_suc-le-suc, le_refl}
use native.Mathlib.Numerals.{add-one}
use native.Mathlib.Decide.{ℕ_discrete}
use native.Mathlib.Omega.{arith}
use lib.ListN.{get_or, length, set, drop, length-append, get_or-append}
use lib.Seq.{get_or_at, set_at, drop-cons, append_snoc, drop-length}
use Rattle.memory.specs.rules.Lists.{table}
use Rattle.memory.specs.rules.Words.{over}

pub length-table : {A : Type 0} (f : ℕ → A) (n : ℕ) → length (table f n) ≡ n
unfolding table
length-table f zero = refl
length-table f (suc n) = length-append (table f n) (f n ∷ []) ∙ (let e = length-table f n in omega arith)

pub get_or-table : {A : Type 0} (f : ℕ → A) (n i : ℕ) (d : A) → i < n → get_or (table f n) i d ≡ f i
unfolding table
get_or-table f zero i d l = absurd (not-suc-le-zero l)
get_or-table {A} f (suc n) i d l = go (get_or-table f n i d) (ℕ_discrete i n)
  where
    go : (i < n → get_or (table f n) i d ≡ f i) → Dec (i ≡ n) → get_or (table f n ++ (f n ∷ [])) i d ≡ f i
    go ih (yes e) = get_or_at (table f n) (f n) [] d i (length-table f n ∙ sym e) ∙ ap f (sym e)
    go ih (no ne) = get_or-append (table f n) (f n ∷ []) d i (let e = length-table f n in omega arith) ∙ ih (omega arith)

pub get_or-default : {A : Type 0} (l : List A) (i : ℕ) (a b : A) → i < length l → get_or l i a ≡ get_or l i b
get_or-default [] i a b l = absurd (not-suc-le-zero l)
get_or-default (x ∷ t) zero a b l = refl
get_or-default (x ∷ t) (suc i) a b l = get_or-default t i a b (le_of_suc-le-suc l)

pub table-ext : {A : Type 0} (f g : ℕ → A) (n : ℕ) → ((i : ℕ) → i < n → f i ≡ g i) → table f n ≡ table g n
unfolding table
table-ext f g zero h = refl
table-ext {A} f g (suc n) h = λ i. table-ext f g n (λ k l. h k (omega arith)) i ++ (h n (le_refl (suc n)) i ∷ [])

-- one more entry is stored
pub table_step : {A : Type 0} (f : ℕ → A) (s : List A) (i : ℕ) → i < length s → set (table f i ++ drop i s) i (f i) ≡ table f (suc i) ++ drop (suc i) s
unfolding table
table_step f s i l =
    ap (λ r. set (table f i ++ r) i (f i)) (drop-cons s i (f i) l)
    ∙ (set_at (table f i) (get_or s i (f i)) (drop (suc i) s) (f i) i (length-table f i) ∙ sym (append_snoc (table f i) (f i) (drop (suc i) s)))

-- the same, as a loop asks it of what its slice holds now
pub table_more : {A : Type 0} (f : ℕ → A) (s out : List A) (i : ℕ) (v : A) → i < length s → out ≡ table f i ++ drop i s → v ≡ f i → set out i v ≡ table f (i + 1) ++ drop (i + 1) s
table_more f s out i v l e q = (λ t. set (e t) i (q t)) ∙ (table_step f s i l ∙ ap (λ k. table f k ++ drop k s) (sym (add-one i)))

-- the loop has filled in all n: the table lies over the front
pub table_filled : (f : ℕ → ℕ) (s out v : List ℕ) (i n : ℕ) → out ≡ table f i ++ drop i s → i ≡ n → table f n ≡ v → out ≡ over v s
table_filled f s out v i n e q t = e ∙ (ap (λ k. table f k ++ drop k s) q ∙ (λ k. t k ++ drop (lengths k) s))
  where
    lengths : n ≡ length v
    lengths = sym (length-table f n) ∙ ap length t

-- and where there is no more than n places, the table is all
pub table-whole : {A : Type 0} (f : ℕ → A) (s out : List A) (i : ℕ) → out ≡ table f i ++ drop i s → i ≡ length s → out ≡ table f (length s)
table-whole {A} f s out i e q = e ∙ (ap (λ k. table f k ++ drop k s) q ∙ (ap (λ (z : List A). table f (length s) ++ z) (drop-length s) ∙ append-nil (table f (length s))))

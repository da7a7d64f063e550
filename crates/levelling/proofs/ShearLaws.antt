-- The shear of a table that runs one way from 0: its entries in closed form and as drift minus least, its greatest entry, its steps.
use mathlib.Core.Path.{◌≡◌, refl, sym, ap, ◌∙◌, subst}
use mathlib.Core.List.{List, [], ◌∷◌, map}
use mathlib.Core.Bool.{Bool, true, false, cond}
use Prim.Native.Nat.{ℕ, zero, suc, ◌-◌, ◌≤◌, ◌<◌, min, max}
use native.Mathlib.Nat.{not-suc-le-zero, le_of_suc-le-suc, le_refl}
use native.Mathlib.Omega.{arith}
use lib.IntN.{ℤ, pos, neg_ℤ, ◌-ℤ◌}
use lib.ListN.{get_or, length, length-map}
use lib.Seq.{ext_get_or}
use Rattle.memory.specs.rules.Lists.{table, greatest}
use Rattle.memory.proofs.GreatestLaws.{greatest-bounds, greatest-at-most}
use Rattle.memory.proofs.TableLaws.{length-table, get_or-table, get_or-default, table-ext}
use Rattle.rounding.proofs.DriftLaws.{signed}
use Rattle.levelling.specs.rules.Shears.{minℤ, natural, least_entry, shear_of}
use Rattle.levelling.specs.stages.Entries.{least_end}
use Rattle.levelling.proofs.Integers.{minus-zero, minus_negated, lesser-comm, lesser-assoc, lesser-same, zero-lesser, negated-lesser}

-- ---- the least entry
least-bounds : (d : ℤ) (t : List ℤ) (k : ℕ) → k < suc (length t) → minℤ (least_entry d t) (get_or (d ∷ t) k d) ≡ least_entry d t
unfolding least_entry
least-bounds d [] zero l = lesser-same d
least-bounds d [] (suc k) l = absurd (not-suc-le-zero (le_of_suc-le-suc l))
least-bounds d (e ∷ t) zero l = lesser-assoc e (least_entry d t) d ∙ ap (minℤ e) (least-bounds d t zero (omega arith))
least-bounds d (e ∷ t) (suc zero) l =
    lesser-comm (minℤ e (least_entry d t)) e ∙ (sym (lesser-assoc e e (least_entry d t)) ∙ ap (λ z. minℤ z (least_entry d t)) (lesser-same e))
least-bounds d (e ∷ t) (suc (suc k)) l = lesser-assoc e (least_entry d t) (get_or t k d) ∙ ap (minℤ e) (least-bounds d t (suc k) (le_of_suc-le-suc l))

least-at-least : (d : ℤ) (t : List ℤ) (m : ℤ) → ((k : ℕ) → k < suc (length t) → minℤ (get_or (d ∷ t) k d) m ≡ m) → minℤ (least_entry d t) m ≡ m
unfolding least_entry
least-at-least d [] m h = h zero (le_refl 1)
least-at-least d (e ∷ t) m h = lesser-assoc e (least_entry d t) m ∙ (ap (minℤ e) (least-at-least d t m others) ∙ h 1 (omega arith))
  where
    others : (k : ℕ) → k < suc (length t) → minℤ (get_or (d ∷ t) k d) m ≡ m
    others zero l = h zero (omega arith)
    others (suc k) l = h (suc (suc k)) (omega arith)

-- ---- the shear of any list
get_or-map-inside : {A B : Type 0} (f : A → B) (l : List A) (i : ℕ) (a : A) (b : B) → i < length l → get_or (map f l) i b ≡ f (get_or l i a)
get_or-map-inside f [] i a b l = absurd (not-suc-le-zero l)
get_or-map-inside f (x ∷ t) zero a b l = refl
get_or-map-inside f (x ∷ t) (suc i) a b l = get_or-map-inside f t i a b (le_of_suc-le-suc l)

pub length-shear : (l : List ℤ) → length (shear_of l) ≡ length l
unfolding shear_of
length-shear [] = refl
length-shear (d ∷ t) = length-map (d ∷ t) _

-- m is the least entry: it is the one at k, and no entry is less
shear-at : (l : List ℤ) (m a : ℤ) (k : ℕ) → k < length l → get_or l k a ≡ m → ((i : ℕ) → i < length l → minℤ (get_or l i a) m ≡ m)
    → (i : ℕ) → i < length l → get_or (shear_of l) i 0 ≡ natural (get_or l i a -ℤ m)
unfolding shear_of
shear-at [] m a k kl e h i l = absurd (not-suc-le-zero l)
shear-at (d ∷ t) m a k kl e h i l = get_or-map-inside (λ v. natural (v -ℤ least_entry d t)) (d ∷ t) i a 0 l ∙ ap (λ v. natural (get_or (d ∷ t) i a -ℤ v)) least
  where
    least : least_entry d t ≡ m
    least =
        sym (least-bounds d t k kl) ∙ (ap (minℤ (least_entry d t)) (get_or-default (d ∷ t) k d a kl ∙ e)
        ∙ least-at-least d t m (λ j q. ap (λ z. minℤ z m) (get_or-default (d ∷ t) j d a q) ∙ h j q))

-- ---- the shear of a table that runs one way
-- entry c of the shear of n drifts of these sizes: a falling table (s is true) is least at its last entry, a rising one at its first
abbrev pub shear_entry : Bool → (ℕ → ℕ) → ℕ → ℕ → ℕ
shear_entry s size n c = cond s (size (n - 1) - size c) (size c)

-- n drifts by size and sign: the sizes rise from 0
pub record OneWay (d : ℕ → ℤ) (s : Bool) (size : ℕ → ℕ) (n : ℕ) : Type 0 where
  pub some : 0 < n
  pub first : size 0 ≡ 0
  pub rises : (c c' : ℕ) → c ≤ c' → c' < n → size c ≤ size c'
  pub entries : (c : ℕ) → c < n → d c ≡ signed s (size c)

module _ (d : ℕ → ℤ) (s : Bool) (size : ℕ → ℕ) (n : ℕ) (W : OneWay d s size n) where
  end : n - 1 < n
  end = omega (arith, W.some)

  pub last-greatest : (c : ℕ) → c < n → size c ≤ size (n - 1)
  last-greatest c l = W.rises c (n - 1) (omega arith) end

  -- the least of them: the first, which is 0, or where they fall the last
  least : least_end d n ≡ cond s (neg_ℤ (pos (size (n - 1)))) (pos 0)
  least = (λ t. minℤ (W.entries 0 W.some t) (W.entries (n - 1) end t)) ∙ go s
    where
      go : (s : Bool) → minℤ (signed s (size 0)) (signed s (size (n - 1))) ≡ cond s (neg_ℤ (pos (size (n - 1)))) (pos 0)
      go false = ap pos (let f = W.first in let e : min (size 0) (size (n - 1)) ≡ 0 = omega arith in e)
      go true = negated-lesser (size 0) (size (n - 1)) (last-greatest 0 W.some)

  least-is-entry : (k : ℕ) × (k < n) × (d k ≡ least_end d n)
  least-is-entry = go s (λ c l. W.entries c l) least
    where
      go : (s : Bool) → ((c : ℕ) → c < n → d c ≡ signed s (size c)) → least_end d n ≡ cond s (neg_ℤ (pos (size (n - 1)))) (pos 0) → (k : ℕ) × (k < n) × (d k ≡ least_end d n)
      go false E e = (0, W.some, E 0 W.some ∙ (ap pos W.first ∙ sym e))
      go true E e = (n - 1, end, E (n - 1) end ∙ sym e)

  none-less : (i : ℕ) → i < n → minℤ (d i) (least_end d n) ≡ least_end d n
  none-less i l = (λ t. minℤ (W.entries i l t) (least t)) ∙ (go s ∙ sym least)
    where
      go : (s : Bool) → minℤ (signed s (size i)) (cond s (neg_ℤ (pos (size (n - 1)))) (pos 0)) ≡ cond s (neg_ℤ (pos (size (n - 1)))) (pos 0)
      go false = zero-lesser (size i)
      go true = negated-lesser (size i) (size (n - 1)) (last-greatest i l)

  pub minus-least : (i : ℕ) → i < n → d i -ℤ least_end d n ≡ pos (shear_entry s size n i)
  minus-least i l = (λ t. W.entries i l t -ℤ least t) ∙ go s
    where
      go : (s : Bool) → signed s (size i) -ℤ cond s (neg_ℤ (pos (size (n - 1)))) (pos 0) ≡ pos (shear_entry s size n i)
      go false = minus-zero (size i)
      go true = minus_negated (size i) (size (n - 1)) (last-greatest i l)

  pub shear-by-least : table (λ c. natural (d c -ℤ least_end d n)) n ≡ shear_of (table d n)
  shear-by-least =
      sym
      (ext_get_or 0 (shear_of (table d n)) (table (λ c. natural (d c -ℤ least_end d n)) n) (lengths ∙ sym (length-table _ n))
      (λ i l. (let k : i < n = omega (arith, lengths) in at i k ∙ sym (get_or-table _ n i 0 k))))
    where
      lengths : length (shear_of (table d n)) ≡ n
      lengths = length-shear (table d n) ∙ length-table d n

      entry : (i : ℕ) → i < n → get_or (table d n) i (pos 0) ≡ d i
      entry i l = get_or-table d n i (pos 0) l

      outward : (i : ℕ) → i < n → i < length (table d n)
      outward i l = omega (arith, length-table d n)

      inward : (i : ℕ) → i < length (table d n) → i < n
      inward i l = omega (arith, length-table d n)

      at : (i : ℕ) → i < n → get_or (shear_of (table d n)) i 0 ≡ natural (d i -ℤ least_end d n)
      at i l =
          let k = least-is-entry in
          shear-at (table d n) (least_end d n) (pos 0) k.0 (outward k.0 k.1) (entry k.0 k.1 ∙ k.2)
          (λ j q. ap (λ z. minℤ z (least_end d n)) (entry j (inward j q)) ∙ none-less j (inward j q)) i (outward i l)
          ∙ ap (λ z. natural (z -ℤ least_end d n)) (entry i l)

  pub shear-one-way : shear_of (table d n) ≡ table (shear_entry s size n) n
  shear-one-way = sym shear-by-least ∙ table-ext _ _ n (λ i l. ap natural (minus-least i l))

  pub entry-at-most : (i : ℕ) → i < n → shear_entry s size n i ≤ size (n - 1)
  entry-at-most i l = go s
    where
      go : (s : Bool) → shear_entry s size n i ≤ size (n - 1)
      go false = last-greatest i l
      go true = omega arith

  -- what lies between two equal entries equals them
  pub level-between : (a b c : ℕ) → a ≤ b → b ≤ c → c < n → shear_entry s size n a ≡ shear_entry s size n c → shear_entry s size n a ≡ shear_entry s size n b
  level-between a b c l m k = go s
    where
      go : (s : Bool) → shear_entry s size n a ≡ shear_entry s size n c → shear_entry s size n a ≡ shear_entry s size n b
      go false e = let p = W.rises a b l (omega arith) in let q = W.rises b c m k in omega arith
      go true e = let p = W.rises a b l (omega arith) in let q = W.rises b c m k in let r = last-greatest c k in omega arith

-- ---- the greatest entry
greatest-table : (g : ℕ → ℕ) (n k : ℕ) → k < n → ((i : ℕ) → i < n → g i ≤ g k) → greatest (table g n) ≡ g k
greatest-table g n k l h =
    let low : g k ≤ greatest (table g n) = subst (λ v. v ≤ greatest (table g n)) (get_or-table g n k 0 l) (greatest-bounds (table g n) k) in
    let high : greatest (table g n) ≤ g k = greatest-at-most (table g n) (g k) (λ i q. (let j : i < n = omega (arith, length-table g n) in subst (λ v. v ≤ g k) (sym (get_or-table g n i 0 j)) (h i j))) in
    omega arith

module _ (d : ℕ → ℤ) (s : Bool) (size : ℕ → ℕ) (n : ℕ) (W : OneWay d s size n) where
  -- it is the last entry of a rising shear and the first of a falling one: the last drift's size
  pub greatest-one-way : greatest (shear_of (table d n)) ≡ size (n - 1)
  greatest-one-way = ap greatest (shear-one-way d s size n W) ∙ go s
    where
      go : (s : Bool) → greatest (table (shear_entry s size n) n) ≡ size (n - 1)
      go false = greatest-table size n (n - 1) (omega (arith, W.some)) (last-greatest d s size n W)
      go true =
          greatest-table (λ c. size (n - 1) - size c) n 0 W.some (λ i l. (let f = W.first in omega arith))
          ∙ (let f = W.first in let e : size (n - 1) - size 0 ≡ size (n - 1) = omega arith in e)

  pub greatest-of-ends : max (shear_entry s size n 0) (shear_entry s size n (n - 1)) ≡ greatest (shear_of (table d n))
  greatest-of-ends = go s ∙ sym greatest-one-way
    where
      go : (s : Bool) → max (shear_entry s size n 0) (shear_entry s size n (n - 1)) ≡ size (n - 1)
      go false = let f = W.first in omega arith
      go true = let f = W.first in omega arith

-- ---- from entry to entry
-- the entries run one way, down where s is true, else up, and by at most one
abbrev pub Steps : Bool → List ℕ → Type 0
Steps false l = (i : ℕ) → suc i < length l → (get_or l i 0 ≤ get_or l (suc i) 0) × (get_or l (suc i) 0 ≤ suc (get_or l i 0))
Steps true l = (i : ℕ) → suc i < length l → (get_or l (suc i) 0 ≤ get_or l i 0) × (get_or l i 0 ≤ suc (get_or l (suc i) 0))

pub steps-one-way : (s : Bool) (size : ℕ → ℕ) (n : ℕ) → ((c : ℕ) → c < n → size c ≤ size (n - 1)) → ((c : ℕ) → suc c < n → (size c ≤ size (suc c)) × (size (suc c) ≤ suc (size c)))
    → Steps s (table (shear_entry s size n) n)
steps-one-way false size n last step = λ i l.
    let k : suc i < n = omega (arith, length-table size n) in
    let a = get_or-table size n i 0 (omega arith) in
    let b = get_or-table size n (suc i) 0 k in
    let s = step i k in
    (omega arith, omega arith)
steps-one-way true size n last step = λ i l.
    let g : ℕ → ℕ = λ c. size (n - 1) - size c in
    let k : suc i < n = omega (arith, length-table g n) in
    let a = get_or-table g n i 0 (omega arith) in
    let b = get_or-table g n (suc i) 0 k in
    let s = step i k in
    let t = last (suc i) k in
    (omega arith, omega arith)

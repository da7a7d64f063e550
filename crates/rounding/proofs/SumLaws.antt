-- `pairwise_sum` without its count of splits: `pairwise_sum-short` and `pairwise_sum-split` are the whole rule.
use Rattle.std.proofs.Common.{◌≡◌, ℕ, zero, suc, ◌+◌, ◌<◌, ◌≤◌, Bool, true, false, cond, not, T, leb, List, length, get_or, take, drop, sym, refl, ap, ◌∙◌, le_refl, add-one, arith, le→leb, leb→le, length-drop, drop_of_length-le, length-take, drop-cons}
use native.Mathlib.Nat.{le-suc}
use lib.Dec.{nleb→lt}
use lib.Arith.{lt→nleb}
use lib.Ieee.{Float, nan, binary64, add}
use Rattle.rounding.specs.rules.Sums.{sum_from, block, block_sum, half, sum_within, pairwise_sum}

-- ---- left to right
pub sum_from-next : (sum : Float) (xs : List Float) (i : ℕ) → i < length xs → sum_from (add binary64 sum (get_or xs i nan)) (drop (i + 1) xs) ≡ sum_from sum (drop i xs)
unfolding sum_from
sum_from-next sum xs i h = rw (add-one, drop-cons xs i nan)

pub sum_from-end : (sum : Float) (xs : List Float) (i : ℕ) → length xs ≤ i → sum_from sum (drop i xs) ≡ sum
unfolding sum_from
sum_from-end sum xs i h = ap (sum_from sum) (drop_of_length-le xs h)

-- ---- with k splits
cond_yes : {A : Type 0} (b : Bool) (x y : A) → T b → cond b x y ≡ x
cond_yes true x y t = refl
cond_yes false x y t = absurd t

cond_no : {A : Type 0} (b : Bool) (x y : A) → T (not b) → cond b x y ≡ y
cond_no true x y t = absurd t
cond_no false x y t = refl

within-short : (k : ℕ) (xs : List Float) → length xs ≤ block → sum_within k xs ≡ block_sum xs
unfolding sum_within
within-short zero xs h = refl
within-short (suc k) xs h = cond_yes (leb (length xs) block) (block_sum xs) _ (le→leb (length xs) block h)

within-split : (k : ℕ) (xs : List Float) → block < length xs → sum_within (suc k) xs ≡ add binary64 (sum_within k (take (half xs) xs)) (sum_within k (drop (half xs) xs))
unfolding sum_within
within-split k xs h = cond_no (leb (length xs) block) (block_sum xs) _ (lt→nleb (length xs) block h)

left-at-most : (k : ℕ) (xs : List Float) → block < length xs → length xs ≤ suc k → length (take (half xs) xs) ≤ k
left-at-most k xs h l = let e = length-take (half xs) xs in omega arith

right-at-most : (k : ℕ) (xs : List Float) → block < length xs → length xs ≤ suc k → length (drop (half xs) xs) ≤ k
right-at-most k xs h l = let e = length-drop (half xs) xs in omega arith

-- ---- any two counts of splits from the length on give the same sum
none-is-short : (n : ℕ) → n ≤ 0 → n ≤ block
none-is-short n h = omega arith

within-enough : (k j : ℕ) (xs : List Float) → length xs ≤ k → length xs ≤ j → sum_within k xs ≡ sum_within j xs
within-enough zero j xs h l =
    let s = none-is-short (length xs) h in
    within-short zero xs s ∙ sym (within-short j xs s)
within-enough (suc k) zero xs h l =
    let s = none-is-short (length xs) l in
    within-short (suc k) xs s ∙ sym (within-short zero xs s)
within-enough (suc k) (suc j) xs h l =
    go (leb (length xs) block) (leb→le (length xs) block) (nleb→lt (length xs) block)
    (λ g. within-enough k j (take (half xs) xs) (left-at-most k xs g h) (left-at-most j xs g l))
    (λ g. within-enough k j (drop (half xs) xs) (right-at-most k xs g h) (right-at-most j xs g l))
  where
    go : (b : Bool) → (T b → length xs ≤ block) → (T (not b) → block < length xs)
        → (block < length xs → sum_within k (take (half xs) xs) ≡ sum_within j (take (half xs) xs))
        → (block < length xs → sum_within k (drop (half xs) xs) ≡ sum_within j (drop (half xs) xs))
        → sum_within (suc k) xs ≡ sum_within (suc j) xs
    go true f g p q = within-short (suc k) xs (f tt) ∙ sym (within-short (suc j) xs (f tt))
    go false f g p q = within-split k xs (g tt) ∙ (λ i. add binary64 (p (g tt) i) (q (g tt) i)) ∙ sym (within-split j xs (g tt))

-- ---- the rule
pub pairwise_sum-short : (xs : List Float) → length xs ≤ block → pairwise_sum xs ≡ block_sum xs
unfolding pairwise_sum
pairwise_sum-short xs h = within-short (length xs) xs h

pub pairwise_sum-split : (xs : List Float) → block < length xs → pairwise_sum xs ≡ add binary64 (pairwise_sum (take (half xs) xs)) (pairwise_sum (drop (half xs) xs))
unfolding pairwise_sum
pairwise_sum-split xs h =
    let n = length xs in
    let a = take (half xs) xs in
    let b = drop (half xs) xs in
    within-enough n (suc n) xs (le_refl n) (le-suc n) ∙ within-split n xs h
    ∙ (λ i. add binary64 (within-enough n (length a) a (left-at-most n xs h (le-suc n)) (le_refl (length a)) i) (within-enough n (length b) b (right-at-most n xs h (le-suc n)) (le_refl (length b)) i))

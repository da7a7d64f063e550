-- Union-find over the numbers below n: the parents that a list has, and what they owe to a relation r (Rosenfeld and Pfaltz, 1966).
use Rattle.std.specs.Prelude.{◌≡◌, Bool, true, List, ℕ, ◌≤◌, ◌<◌, min, max, get_or, length}
use Rattle.union_find.specs.rules.Chains.{Chain}
use Rattle.union_find.specs.rules.Classes.{renamed}

-- f names the class of each number below n by its first
pub record Named (r : ℕ → ℕ → Bool) (n : ℕ) (f : ℕ → ℕ) : Type 0 where
  pub low : (i : ℕ) → i < n → f i ≤ i
  pub sound : (i : ℕ) → i < n → Chain r n i (f i)
  pub full : (a b : ℕ) → a < b → b < n → r a b ≡ true → f a ≡ f b

-- half way: the numbers below j have been joined with those before them, and j with those below i
pub record Seen (r : ℕ → ℕ → Bool) (n : ℕ) (f : ℕ → ℕ) (j i : ℕ) : Type 0 where
  pub low : (k : ℕ) → f k ≤ k
  pub idem : (k : ℕ) → f (f k) ≡ f k
  pub sound : (k : ℕ) → Chain r n k (f k)
  pub fresh : (k : ℕ) → j < k → f k ≡ k
  pub own : i ≡ 0 → f j ≡ j
  pub full : (a b : ℕ) → a < b → b < j → r a b ≡ true → f a ≡ f b
  pub seen : (a : ℕ) → a < i → a < j → r a j ≡ true → f a ≡ f j

-- the parents p of the numbers below n lead each to its root, the first of its class, as f has it
pub record Forest (f : ℕ → ℕ) (p : List ℕ) (n : ℕ) : Type 0 where
  pub down : (j : ℕ) → j < n → get_or p j 0 ≤ j
  pub same : (j : ℕ) → j < n → f (get_or p j 0) ≡ f j
  pub root : (j : ℕ) → j < n → get_or p j 0 ≡ j → f j ≡ j

-- r is the root of x, and p' leads to the same roots as p
pub record Found (p p' : List ℕ) (x r : ℕ) : Type 0 where
  pub len : length p' ≡ length p
  pub low : r ≤ x
  pub down : (j : ℕ) → get_or p' j 0 ≤ get_or p j 0
  pub keep : (f : ℕ → ℕ) (n : ℕ) → x < n → n ≤ length p → Forest f p n → Forest f p' n
  pub root : (f : ℕ → ℕ) (n : ℕ) → x < n → n ≤ length p → Forest f p n → r ≡ f x

-- the classes of a and b of a naming f joined, under the smaller name
abbrev pub join_f : (ℕ → ℕ) → ℕ → ℕ → ℕ → ℕ
join_f f a b j = renamed (max (f a) (f b)) (min (f a) (f b)) (f j)

-- the class of k and the class whose root was given have become one, with the root r
pub record United (p p' : List ℕ) (root k r : ℕ) : Type 0 where
  pub len : length p' ≡ length p
  pub joined : (f : ℕ → ℕ) (n j : ℕ) → k < n → root < n → n ≤ length p → ((i : ℕ) → f i ≤ i) → ((i : ℕ) → f (f i) ≡ f i) → f j ≡ root → Forest f p n
      → Forest (join_f f k j) p' n × (r ≡ join_f f k j j)

-- the class of k and that of `member` have become one, and r is of it
pub record Joined (p p' : List ℕ) (member k r : ℕ) : Type 0 where
  pub len : length p' ≡ length p
  pub joined : (f : ℕ → ℕ) (n j : ℕ) → k < n → member < n → n ≤ length p → ((i : ℕ) → f i ≤ i) → ((i : ℕ) → f (f i) ≡ f i) → f member ≡ f j → Forest f p n
      → Forest (join_f f k j) p' n × (join_f f k j r ≡ join_f f k j j) × (r < n)

-- r is of the class of k, and no later
pub record Kin (p : List ℕ) (k r : ℕ) : Type 0 where
  pub low : r ≤ k
  pub same : (f : ℕ → ℕ) (n : ℕ) → k < n → Forest f p n → f r ≡ f k

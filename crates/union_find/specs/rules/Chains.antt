-- What a naming of classes is to be: each class named by its first, two numbers in one class just where a chain of r joins them.
use Rattle.std.specs.Prelude.{◌≡◌, Bool, true, ℕ, ◌≤◌, ◌<◌}

-- a chain of numbers below n, each joined by r with the next; r is asked with the smaller number first
pub data Chain (r : ℕ → ℕ → Bool) (n : ℕ) : ℕ → ℕ → Type 0 where
  here : {a : ℕ} → Chain r n a a
  rise : {a b c : ℕ} → a < b → b < n → r a b ≡ true → Chain r n b c → Chain r n a c
  fall : {a b c : ℕ} → b < a → a < n → r b a ≡ true → Chain r n b c → Chain r n a c

-- f names each number's class by its first
pub record Firsts (r : ℕ → ℕ → Bool) (n : ℕ) (f : ℕ → ℕ) : Type 0 where
  pub low : (i : ℕ) → f i ≤ i
  pub sound : (i : ℕ) → Chain r n i (f i)
  pub full : (a b : ℕ) → a < b → b < n → r a b ≡ true → f a ≡ f b

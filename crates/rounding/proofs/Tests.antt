-- A test of the code as a fact, and the tests that `le` and `lt` make of two sizes.
use Rattle.std.proofs.Common.{◌≡◌, ℕ, ◌<◌, ◌≤◌, Bool, true, false, not, ◌&&◌, ◌||◌, T, ltb, sym, subst, le_of_eq, le_of_lt, ltb→lt}

pub yes : {b : Bool} → b ≡ true → T b
yes h = subst T (sym h) tt

pub no : {b : Bool} → b ≡ false → T (not b)
no h = subst (λ (a : Bool). T (not a)) (sym h) tt

pub first_so : (a b : Bool) → T a → T (a || b)
first_so true b t = tt
first_so false b t = absurd t

pub first-not : (a b : Bool) → T (not (a || b)) → T (not a)
first-not true b t = absurd t
first-not false b t = tt

pub second-not : (a b : Bool) → T (not (a || b)) → T (not b)
second-not true b t = absurd t
second-not false b t = t

-- below, or equal by a test q of either order
pub at_most : (a b : ℕ) (q : Bool) → (T q → a ≡ b) → T (ltb a b || (q && true)) → a ≤ b
at_most a b q f t = go (ltb a b) q (ltb→lt a b) f t
  where
    go : (p q : Bool) → (T p → a < b) → (T q → a ≡ b) → T (p || (q && true)) → a ≤ b
    go true q f g t = le_of_lt (f tt)
    go false true f g t = le_of_eq (g tt)
    go false false f g t = absurd t

-- Digits read.
use mathlib.Core.Path.{◌≡◌, refl, sym, ap, ◌∙◌}
use mathlib.Core.Bool.{Bool, true, false}
use mathlib.Core.List.{List}
use Prim.Native.Nat.{ℕ, zero, suc, ◌+◌, ◌-◌, ◌*◌, ◌^◌, ◌≤◌, ◌<◌}
use native.Mathlib.Decide.{ℕ_discrete}
use native.Mathlib.Nat.{not-suc-le-zero, le_refl, pow-suc, pow-le-pow_right}
use native.Mathlib.Numerals.{add-one}
use native.Mathlib.Omega.{arith}
use lib.ListN.{get_or, length, take, drop, length-take, length-drop}
use lib.Seq.{get_or-drop}
use Rattle.std.proofs.Common.{get_or-take}
use Rattle.std.specs.Prelude.{◌↔◌, IsTrue, EachIndex}
use Rattle.memory.proofs.BoolLaws.{and_left, and_right}
use Rattle.judging.specs.rules.Spoiled.{every}
use Rattle.showing.specs.rules.Inputs.{digit_value, number_at}

-- every test below n, one by one
pub every-at : (p : ℕ → Bool) (n i : ℕ) → every p n ≡ true → i < n → p i ≡ true
unfolding every
every-at p zero i e l = absurd (not-suc-le-zero l)
every-at p (suc n) i e l = go (every-at p n i (and_left (every p n) (p n) e)) (ℕ_discrete i n)
  where
    go : (i < n → p i ≡ true) → Dec (i ≡ n) → p i ≡ true
    go ih (yes q) = ap p q ∙ and_right (every p n) (p n) e
    go ih (no ne) = ih (omega arith)

pub every-all : (p : ℕ → Bool) (n : ℕ) → ((i : ℕ) → i < n → p i ≡ true) → every p n ≡ true
unfolding every
every-all p zero h = refl
every-all p (suc n) h = rw (every-all p n (λ i l. h i (omega arith)), h n (le_refl (suc n)))

-- and whether they all hold, as a chain tells it
pub every-told : (p : ℕ → Bool) (n : ℕ) (r : Bool) → (IsTrue r ↔ ((i : ℕ) → i < n → p i ≡ true)) → r ≡ every p n
every-told p n r h = go r (every p n) refl refl
  where
    go : (a b : Bool) → r ≡ a → every p n ≡ b → r ≡ every p n
    go true b e f = e ∙ sym (every-all p n (h.0 e))
    go false true e f = h.1 (λ i. every-at p n i f) ∙ sym f
    go false false e f = e ∙ sym f

pub every-broken : (p : ℕ → Bool) (n i : ℕ) → i < n → p i ≡ false → false ≡ every p n
every-broken p n i l e = every-told p n false ((λ t k b. absurd (let z : false ≡ true = t in cc)), (λ all. sym e ∙ all i l))

-- of the entries from `at` on
part-entry : (s : List ℕ) (at n i : ℕ) → i < n → get_or (take (at + n - at) (drop at s)) i 0 ≡ get_or s (at + i) 0
part-entry s at n i l = get_or-take (at + n - at) (drop at s) i 0 (omega arith) ∙ get_or-drop at s i 0

pub part-told : (f : ℕ → Bool) (s : List ℕ) (at n : ℕ) → at + n ≤ length s → (r : Bool)
    → (IsTrue r ↔ EachIndex (take (at + n - at) (drop at s)) (λ k. IsTrue (f (get_or (take (at + n - at) (drop at s)) k 0)))) → r ≡ every (λ i. f (get_or s (at + i) 0)) n
part-told f s at n room r h =
    let l : length (take (at + n - at) (drop at s)) ≡ n = simp (length-take, length-drop) (omega arith) in
    every-told (λ i. f (get_or s (at + i) 0)) n r
    ((λ t i b. ap f (sym (part-entry s at n i b)) ∙ h.0 t i (omega arith)), (λ all. h.1 (λ i b. ap f (part-entry s at n i (omega arith)) ∙ all i (omega arith))))

-- one more digit
pub number_more : (s : List ℕ) (at n i v d : ℕ) → i < n → v ≡ number_at s at i → d ≡ digit_value (get_or (take (at + n - at) (drop at s)) i 0) → v * 16 + d ≡ number_at s at (i + 1)
unfolding number_at
number_more s at n i v d l e f = rw (add-one i) (λ k. e k * 16 + (f ∙ ap digit_value (part-entry s at n i l)) k)

pub power-more : (i v d : ℕ) → v < 16 ^ i → d < 16 → v * 16 + d < 16 ^ (i + 1)
power-more i v d h l = rw (add-one i, pow-suc 16 i) (omega arith)

-- at most 15 digits are before the last
pub power_small : (i : ℕ) → i < 16 → 16 ^ i ≤ 16 ^ 15
power_small i h = pow-le-pow_right {n = 16} (omega arith) {i = i} {j = 15} (omega arith)

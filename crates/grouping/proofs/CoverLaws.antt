-- The lines over a frame column, from those that start and those that end there.
use mathlib.Core.Path.{◌≡◌, refl, ◌∙◌}
use mathlib.Core.Bool.{Bool, true, false, cond, ◌&&◌}
use mathlib.Core.List.{List, [], ◌∷◌, map}
use Prim.Native.Nat.{ℕ, suc, ◌+◌, ◌≤◌, ◌<◌}
use native.Mathlib.Nat.{le_refl}
use native.Mathlib.Decide.{ℕ_discrete, dec_lt, dec_le}
use native.Mathlib.Omega.{arith}
use borrow.Author.Tests.{eq-eqb, ne_eqb, le-leb, lt-leb}
use lib.ListN.{length}
use lib.Dec.{eqb, leb}
use Rattle.memory.specs.rules.Lists.{keep, occurs}
use Rattle.memory.specs.declared.rect.Rect.{Rect}
use Rattle.grouping.specs.rules.Columns.{cover}
use Rattle.memory.proofs.ListLaws.{Each}

-- 1 where the test passes
bit : Bool → ℕ
bit t = cond t 1 0

cover-cons : (r : Rect) (ls : List Rect) (x : ℕ) → cover (r ∷ ls) x ≡ bit (leb r.x0 x && leb x r.x1) + cover ls x
unfolding cover keep bit
cover-cons r ls x = go (leb r.x0 x && leb x r.x1)
  where
    go : (t : Bool) → length (cond t (r ∷ keep (λ (q : Rect). leb q.x0 x && leb x q.x1) ls) (keep (λ (q : Rect). leb q.x0 x && leb x q.x1) ls))
        ≡ cond t 1 0 + length (keep (λ (q : Rect). leb q.x0 x && leb x q.x1) ls)
    go true = omega arith
    go false = omega arith

over-bit : (a b x : ℕ) → a ≤ x → x ≤ b → bit (leb a x && leb x b) ≡ 1
unfolding bit
over-bit a b x h k = rw (le-leb a x h, le-leb x b k)

left-bit : (a b x : ℕ) → x < a → bit (leb a x && leb x b) ≡ 0
unfolding bit
left-bit a b x h = rw (lt-leb a x h)

right-bit : (a b x : ℕ) → b < x → bit (leb a x && leb x b) ≡ 0
unfolding bit
right-bit a b x h = rw (lt-leb x b h) (go (leb a x))
  where
    go : (t : Bool) → ◌≡◌ {A = ℕ} (cond (t && false) 1 0) 0
    go true = refl
    go false = refl

same_bit : (a x : ℕ) → a ≡ x → bit (eqb a x) ≡ 1
unfolding bit
same_bit a x e = rw (eq-eqb a x e)

other-bit : (a x : ℕ) → (a ≡ x → ⊥) → bit (eqb a x) ≡ 0
unfolding bit
other-bit a x n = rw (ne_eqb a x n)

-- of one line from a to b
step-one : (a b x : ℕ) → a ≤ b → bit (leb a (suc x) && leb (suc x) b) + bit (eqb b x) ≡ bit (leb a x && leb x b) + bit (eqb a (suc x))
step-one a b x h = go (dec_le a x) (dec_lt x b)
  where
    go : Dec (a ≤ x) → Dec (x < b) → bit (leb a (suc x) && leb (suc x) b) + bit (eqb b x) ≡ bit (leb a x && leb x b) + bit (eqb a (suc x))
    go (yes l) (yes m) = omega (arith, over-bit a b (suc x) (omega arith) m, other-bit b x (λ e. omega arith), over-bit a b x l (omega arith), other-bit a (suc x) (λ e. omega arith))
    go (yes l) (no m) = last (ℕ_discrete b x)
      where
        last : Dec (b ≡ x) → bit (leb a (suc x) && leb (suc x) b) + bit (eqb b x) ≡ bit (leb a x && leb x b) + bit (eqb a (suc x))
        last (yes e) = omega (arith, right-bit a b (suc x) (omega arith), same_bit b x e, over-bit a b x l (omega arith), other-bit a (suc x) (λ e. omega arith))
        last (no n) = omega (arith, right-bit a b (suc x) (omega arith), other-bit b x n, right-bit a b x (omega arith), other-bit a (suc x) (λ e. omega arith))
    go (no l) m = first (ℕ_discrete a (suc x))
      where
        first : Dec (a ≡ suc x) → bit (leb a (suc x) && leb (suc x) b) + bit (eqb b x) ≡ bit (leb a x && leb x b) + bit (eqb a (suc x))
        first (yes e) = omega (arith, over-bit a b (suc x) (omega arith) (omega arith), other-bit b x (λ e. omega arith), left-bit a b x (omega arith), same_bit a (suc x) e)
        first (no n) = omega (arith, left-bit a b (suc x) (omega arith), other-bit b x (λ e. omega arith), left-bit a b x (omega arith), other-bit a (suc x) n)

-- over the first frame column lie those that start there
pub cover-first : (ls : List Rect) → cover ls 0 ≡ occurs 0 (map (λ (r : Rect). r.x0) ls)
unfolding occurs cover keep bit
cover-first [] = refl
cover-first (r ∷ ls) = cover-cons r ls 0 ∙ go (ℕ_discrete r.x0 0) (cover-first ls)
  where
    go : Dec (r.x0 ≡ 0) → cover ls 0 ≡ occurs 0 (map (λ (r : Rect). r.x0) ls)
        → bit (leb r.x0 0 && leb 0 r.x1) + cover ls 0 ≡ bit (eqb r.x0 0) + occurs 0 (map (λ (r : Rect). r.x0) ls)
    go (yes e) i = omega (arith, i, over-bit r.x0 r.x1 0 (omega arith) (omega arith), same_bit r.x0 0 e)
    go (no n) i = omega (arith, i, left-bit r.x0 r.x1 0 (omega arith), other-bit r.x0 0 n)

module _ (x : ℕ) where
  -- from a frame column to the next
  pub cover-next : (ls : List Rect) → Each (λ (r : Rect). r.x0 ≤ r.x1) ls
      → cover ls (suc x) + occurs x (map (λ (r : Rect). r.x1) ls) ≡ cover ls x + occurs (suc x) (map (λ (r : Rect). r.x0) ls)
  unfolding occurs cover keep bit
  cover-next [] h = refl
  cover-next (r ∷ ls) (h, hs) = omega (arith, cover-cons r ls (suc x), cover-cons r ls x, step-one r.x0 r.x1 x h, cover-next ls hs)

  -- those that end at a frame column lie over it
  pub cover-ended : (ls : List Rect) → Each (λ (r : Rect). r.x0 ≤ r.x1) ls → occurs x (map (λ (r : Rect). r.x1) ls) ≤ cover ls x
  unfolding occurs cover keep bit
  cover-ended [] h = le_refl 0
  cover-ended (r ∷ ls) (h, hs) = go (ℕ_discrete r.x1 x) (cover-ended ls hs)
    where
      go : Dec (r.x1 ≡ x) → occurs x (map (λ (r : Rect). r.x1) ls) ≤ cover ls x → cond (eqb r.x1 x) 1 0 + occurs x (map (λ (r : Rect). r.x1) ls) ≤ cover (r ∷ ls) x
      go (yes e) i = omega (arith, i, cover-cons r ls x, same_bit r.x1 x e, over-bit r.x0 r.x1 x (omega arith) (omega arith))
      go (no n) i = omega (arith, i, cover-cons r ls x, other-bit r.x1 x n)

  pub cover-length : (ls : List Rect) → cover ls x ≤ length ls
  unfolding cover keep bit
  cover-length [] = le_refl 0
  cover-length (r ∷ ls) = go (leb r.x0 x && leb x r.x1) (cover-length ls) (cover-cons r ls x)
    where
      go : (t : Bool) → cover ls x ≤ length ls → cover (r ∷ ls) x ≡ cond t 1 0 + cover ls x → cover (r ∷ ls) x ≤ suc (length ls)
      go true h e = omega arith
      go false h e = omega arith

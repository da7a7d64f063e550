-- Two lists of words held against each other.
use mathlib.Core.Path.{◌≡◌, refl, sym, ap, ap₂, ◌∙◌, subst}
use mathlib.Core.Bool.{Bool, true, false, ◌&&◌, false≢true}
use mathlib.Core.List.{List, [], ◌∷◌, ◌++◌}
use Prim.Native.Nat.{ℕ, ◌+◌, ◌≤◌, ◌<◌}
use native.Mathlib.Decide.{dec_lt}
use native.Mathlib.Omega.{arith}
use borrow.Author.Tests.{eqb-true, eq-eqb}
use lib.Dec.{eqb}
use lib.ListN.{length, get_or, take}
use lib.Seq.{ext_get_or, get_or-take, length-take-le}
use Rattle.memory.specs.rules.Lists.{table}
use Rattle.memory.specs.rules.Words.{same_words}
use Rattle.memory.proofs.BoolLaws.{and_left, and_right}
use Rattle.memory.proofs.TableLaws.{length-table, get_or-table}

pub same_self : (l : List ℕ) → same_words l l ≡ true
unfolding same_words
same_self [] = refl
same_self (x ∷ l) = rw (eq-eqb x x refl, same_self l)

pub same-sound : (l m : List ℕ) → same_words l m ≡ true → l ≡ m
unfolding same_words
same-sound [] [] e = refl
same-sound [] (b ∷ m) e = absurd (false≢true e)
same-sound (a ∷ l) [] e = absurd (false≢true e)
same-sound (a ∷ l) (b ∷ m) e = ap₂ (λ (x : ℕ) (y : List ℕ). x ∷ y) (eqb-true a b (and_left (eqb a b) (same_words l m) e)) (same-sound l m (and_right (eqb a b) (same_words l m) e))

pub same-append : (a b c d : List ℕ) → length a ≡ length c → same_words (a ++ b) (c ++ d) ≡ (same_words a c && same_words b d)
unfolding same_words
same-append [] b [] d e = refl
same-append [] b (y ∷ c) d e = absurd (omega arith)
same-append (x ∷ a) b [] d e = absurd (omega arith)
same-append (x ∷ a) b (y ∷ c) d e = go (eqb x y) (same-append a b c d (omega arith))
  where
    go : (t : Bool) → same_words (a ++ b) (c ++ d) ≡ (same_words a c && same_words b d) → (t && same_words (a ++ b) (c ++ d)) ≡ (t && same_words a c && same_words b d)
    go true q = q
    go false q = refl

-- the first n words against a table, word by word
module _ (words : List ℕ) (f : ℕ → ℕ) (n : ℕ) (room : n ≤ length words) where
  table_same : ((i : ℕ) → i < n → get_or words i 0 ≡ f i) → take n words ≡ table f n
  table_same h =
      ext_get_or 0 (take n words) (table f n) (length-take-le n words room ∙ sym (length-table f n))
      (λ i l. let k : i < n = (let e = length-take-le n words room in omega arith) in get_or-take n words i 0 k ∙ (h i k ∙ sym (get_or-table f n i 0 k)))

  pub words_same : ((i : ℕ) → i < n → get_or words i 0 ≡ f i) → true ≡ same_words (take n words) (table f n)
  words_same h = sym (ap (λ (z : List ℕ). same_words z (table f n)) (table_same h) ∙ same_self (table f n))

  pub words-other : (i : ℕ) → i < n → (get_or words i 0 ≡ f i → ⊥) → false ≡ same_words (take n words) (table f n)
  words-other i l h = go (same_words (take n words) (table f n)) refl
    where
      go : (b : Bool) → same_words (take n words) (table f n) ≡ b → false ≡ b
      go false e = refl
      go true e = absurd (h (sym (get_or-take n words i 0 l) ∙ (ap (λ (z : List ℕ). get_or z i 0) (same-sound (take n words) (table f n) e) ∙ get_or-table f n i 0 l)))

-- one more word that is right
pub one_more : (words : List ℕ) (f : ℕ → ℕ) (c : ℕ) → ((i : ℕ) → i < c → get_or words i 0 ≡ f i) → get_or words c 0 ≡ f c → (i : ℕ) → i < c + 1 → get_or words i 0 ≡ f i
one_more words f c h e i l = go (dec_lt i c)
  where
    go : Dec (i < c) → get_or words i 0 ≡ f i
    go (yes k) = h i k
    go (no k) = let s : i ≡ c = omega arith in subst (λ z. get_or words z 0 ≡ f z) (sym s) e

-- A word of a list, a list over the front of another or put further back, and whether two lists are the same.
use Rattle.std.specs.Prelude.{ℕ, Bool, true, false, ◌&&◌, List, [], ◌∷◌, ◌++◌, eqb, length, get_or, drop, take}

-- the word at k, 0 past the end
abbrev pub word_at : List ℕ → ℕ → ℕ
word_at s k = get_or s k 0

-- s with v over its front: what lies past v is untouched (01, Limits)
abbrev pub over : {A : Type 0} → List A → List A → List A
over v s = v ++ drop (length v) s

-- v from word `at` on; what lies before and past it stays
abbrev pub put_at : ℕ → List ℕ → List ℕ → List ℕ
put_at at v s = take at s ++ over v (drop at s)

-- whether two lists hold the same words
unfoldable pub same_words : List ℕ → List ℕ → Bool
same_words [] [] = true
same_words [] (b ∷ m) = false
same_words (a ∷ l) [] = false
same_words (a ∷ l) (b ∷ m) = eqb a b && same_words l m

-- The pitches of lines in the order of the lines, as the code walks them.
use Rattle.std.specs.Prelude.{◌≡◌, cond, List, [], ◌∷◌, ◌++◌, ℕ, zero, suc, ◌+◌, ◌-◌, ◌*◌, ◌≤◌, ◌<◌, get_or, length, eqb}
use Rattle.smoothing.specs.rules.LineRecords.{line_words}
use Rattle.grouping.specs.rules.HeldLines.{centre_at, block_at}

-- one more than y0 + y1 of the last of the first n lines that is in block b; 0 where there is none
unfoldable pub last_centre : (ℕ → ℕ) → (ℕ → ℕ) → ℕ → ℕ → ℕ
last_centre centre number b zero = 0
last_centre centre number b (suc i) = cond (eqb (number i) b) (centre i + 1) (last_centre centre number b i)

-- the difference that line i gives, if a line of its block stands before it
abbrev pub pitch_of : ℕ → ℕ → List ℕ
pitch_of last centre = cond (eqb last 0) [] ((centre + 1 - last) ∷ [])

-- the same differences in the order of the lines
unfoldable pub walked_pitches : (ℕ → ℕ) → (ℕ → ℕ) → ℕ → List ℕ
walked_pitches centre number zero = []
walked_pitches centre number (suc i) = walked_pitches centre number i ++ pitch_of (last_centre centre number (number i) i) (centre i)

-- a line with y0 + y1 = c is added to block b: the last lines of the blocks stand after the counts of the values
pub record PitchAdded (values b c : ℕ) (s s' : List ℕ) (r : ℕ) : Type 0 where
  pub len : length s' ≡ length s
  pub last : get_or s' (values + b) 0 ≡ c + 1
  pub others : (k : ℕ) → values ≤ k → (k ≡ values + b → ⊥) → get_or s' k 0 ≡ get_or s k 0
  pub first : get_or s (values + b) 0 ≡ 0 → (r ≡ 0) × ((k : ℕ) → k < values → get_or s' k 0 ≡ get_or s k 0)
  pub later : (get_or s (values + b) 0 ≡ 0 → ⊥) → (r ≡ 1) × (get_or s' (c + 1 - get_or s (values + b) 0) 0 ≡ get_or s (c + 1 - get_or s (values + b) 0) 0 + 1)
      × ((k : ℕ) → k < values → (k ≡ c + 1 - get_or s (values + b) 0 → ⊥) → get_or s' k 0 ≡ get_or s k 0)

-- n lines of a frame h high in m blocks
pub record BlockedLines (h n m : ℕ) (s : List ℕ) : Type 0 where
  pub room : n * line_words ≤ length s
  pub centres : (i : ℕ) → i < n → centre_at s i + 1 < 2 * h
  pub blocks : (i : ℕ) → i < n → block_at s i < m
  pub few : n ≤ 4294967295

-- What run extraction asks and gives.
use Rattle.std.specs.Prelude.{◌≡◌, cond, List, [], ◌++◌, map, ℕ, zero, suc, ◌+◌, ◌-◌, ◌*◌, ◌/◌, ◌%◌, ◌≤◌, ◌<◌, get_or, length, take, drop}
use Rattle.memory.specs.rules.Limits.{max_mask_side, max_mask_dots}
use Rattle.memory.specs.rules.Masks.{is_ink}
use Rattle.labelling.specs.stages.InkRuns.{ink_before, differ, append_if, turns, run_count}

-- the words that the turns of a row w wide may take
abbrev pub row_words : ℕ → ℕ
row_words w = 2 * ((w + 1) / 2)

-- the turns of one row, counted from its first dot, `base`
abbrev pub row_turns : List ℕ → ℕ → List ℕ
row_turns row base = map (λ i. base + i) (turns (length row) row (length row))

-- a row has a dot and lies within the limits, and there is room for its turns, from an even place on
pub record RowRoom (row : List ℕ) (base : ℕ) (s : List ℕ) (at : ℕ) : Type 0 where
  pub some : 0 < length row
  pub dots : base + length row ≤ max_mask_dots
  pub even : at % 2 ≡ 0
  pub room : at + row_words (length row) ≤ length s

-- the first x dots of a row are read: k is where the next turn goes, `before` whether the last dot was ink. The row's end is not
-- looked at yet: its turns are those of a row that is one dot wider. The words after the next turn's are as they were
pub record RowScan (row : List ℕ) (base : ℕ) (s₀ s : List ℕ) (at k before x : ℕ) : Type 0 where
  pub asks : RowRoom row base s₀ at
  pub len : length s ≡ length s₀
  pub upto : x ≤ length row
  pub place : k ≡ at + length (turns (suc (length row)) row x)
  pub ink : before ≡ cond (ink_before (suc (length row)) row x) 1 0
  pub words : take k s ≡ take at s₀ ++ map (λ i. base + i) (turns (suc (length row)) row x)
  pub rest : drop (suc k) s ≡ drop (suc k) s₀

-- dots of a row, and room for a turn at each
pub record ScanRoom (row : List ℕ) (from to base : ℕ) (s : List ℕ) (at : ℕ) : Type 0 where
  pub low : from ≤ to
  pub high : to ≤ length row
  pub dots : base + to ≤ max_mask_dots
  pub room : at + (to - from) ≤ length s

-- they are read, and no more turns than dots
pub record Scanned (row : List ℕ) (from to base : ℕ) (s s' : List ℕ) (at r : ℕ) : Type 0 where
  pub len : length s' ≡ length s
  pub short : r ≤ at + (to - from)
  pub read : (s₀ : List ℕ) (start : ℕ) → RowScan row base s₀ s start at (at % 2) from → RowScan row base s₀ s' start r (r % 2) to

-- a byte for each of n dots, 1 where it differs from the dot before it; the first of the dots is the one before these
pub record TurnsTold (dots told : List ℕ) (n : ℕ) : Type 0 where
  pub tells : (i : ℕ) → i < n → get_or told i 0 ≡ cond (differ (is_ink dots i) (is_ink dots (suc i))) 1 0

-- which of the first n dots are told to be turns
unfoldable pub told_turns : List ℕ → ℕ → List ℕ
told_turns told zero = []
told_turns told (suc i) = append_if (is_ink told i) i (told_turns told i)

-- a byte, 0 or 1, for each of n dots, at most 32, and room for a turn at each
pub record ToldRoom (told : List ℕ) (n start : ℕ) (s : List ℕ) (at : ℕ) : Type 0 where
  pub few : n ≤ 32
  pub bits : (i : ℕ) → i < n → get_or told i 0 ≤ 1
  pub dots : start + n ≤ max_mask_dots
  pub room : at + n ≤ length s

-- the told turns stand after what stood before `at`, up to r; word r may have changed, and none after it, nor what has no room for them
pub record ToldWritten (told : List ℕ) (n start : ℕ) (s s' : List ℕ) (at r : ℕ) : Type 0 where
  pub len : length s' ≡ length s
  pub place : r ≡ at + length (told_turns told n)
  pub words : take r s' ≡ take at s ++ map (λ i. start + i) (told_turns told n)
  pub kept : drop (at + n) s' ≡ drop (at + n) s
  pub rest : drop (suc r) s' ≡ drop (suc r) s

-- the row's turns stand after what stood before `at`, up to r; word r may have changed, and none after it
pub record RowExtracted (row : List ℕ) (base : ℕ) (s s' : List ℕ) (at r : ℕ) : Type 0 where
  pub len : length s' ≡ length s
  pub words : take r s' ≡ take at s ++ row_turns row base
  pub upto : r ≡ at + length (row_turns row base)
  pub rest : drop (suc r) s' ≡ drop (suc r) s

-- a mask within the limits, and room for the turns of all its rows
pub record PlaneRoom (w h : ℕ) (m s : List ℕ) : Type 0 where
  pub wide : 0 < w
  pub narrow : w ≤ max_mask_side
  pub low : h ≤ max_mask_side
  pub dots : w * h ≤ max_mask_dots
  pub whole : length m ≡ w * h
  pub room : h * row_words w ≤ length s

-- c runs, and the words hold their turns
pub record Extracted (w h : ℕ) (m s s' : List ℕ) (c : ℕ) : Type 0 where
  pub len : length s' ≡ length s
  pub count : c ≡ run_count w m (w * h)
  pub runs : take (2 * c) s' ≡ turns w m (w * h)

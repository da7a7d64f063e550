-- Lines as the words of their records tell them: boxes, and the pitches of each block (01, "Added by us": the twenty-line measure), for whatever words a store holds.
use Rattle.std.specs.Prelude.{List, [], ◌++◌, map, ℕ, ◌+◌, ◌*◌, zero, suc, get_or, eqb}
use Rattle.memory.specs.rules.Lists.{upto, keep}
use Rattle.memory.specs.declared.rect.Rect.{Rect}
use Rattle.smoothing.specs.rules.LineRecords.{line_words}
use Rattle.grouping.specs.rules.Readings.{differences}

-- the box of line i
abbrev pub line_box : List ℕ → ℕ → Rect
line_box s i =
    record {
      x0 = get_or s (i * line_words) 0;
      y0 = get_or s (i * line_words + 1) 0;
      x1 = get_or s (i * line_words + 2) 0;
      y1 = get_or s (i * line_words + 3) 0;
    }

-- y0 + y1 of line i
abbrev pub centre_at : List ℕ → ℕ → ℕ
centre_at s i = (line_box s i).y0 + (line_box s i).y1

-- the number of line i's block
abbrev pub block_at : List ℕ → ℕ → ℕ
block_at s i = get_or s (i * line_words + 7) 0

-- those of the first n lines that are in block b
abbrev pub held_lines : (ℕ → ℕ) → ℕ → ℕ → List ℕ
held_lines number b n = keep (λ i. eqb (number i) b) (upto n)

-- the differences of y0 + y1 between following lines of each of the first m blocks
unfoldable pub pitches_below : (ℕ → ℕ) → (ℕ → ℕ) → ℕ → ℕ → List ℕ
pitches_below centre number n zero = []
pitches_below centre number n (suc b) = pitches_below centre number n b ++ differences (map centre (held_lines number b n))

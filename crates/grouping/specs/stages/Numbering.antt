-- What the numbering of blocks hands on: one line numbered, the numbers written, a block's record grown by a line.
use Rattle.std.specs.Prelude.{◌≡◌, List, [], ◌∷◌, ℕ, zero, suc, ◌+◌, ◌*◌, ◌<◌, get_or, set}
use Rattle.std.proofs.lemmas.List.Edits.{sets}
use Rattle.memory.specs.rules.Rects.{union}
use Rattle.memory.specs.declared.rect.Rect.{Rect}
use Rattle.smoothing.specs.rules.LineRecords.{line_words}
use Rattle.grouping.specs.rules.BlockRecords.{block_words}

-- line i has the number of its block in place of its parent; r blocks are open
pub record NumberedOne (p p' : List ℕ) (i count r : ℕ) : Type 0 where
  pub first : get_or p i 0 ≡ i → (p' ≡ set p i count) × (r ≡ count + 1)
  pub later : (get_or p i 0 ≡ i → ⊥) → (p' ≡ set p i (get_or p (get_or p i 0) 0)) × (r ≡ count)

-- the lines' words with the block numbers f of the first n
unfoldable pub with_blocks : (ℕ → ℕ) → ℕ → List ℕ → List ℕ
with_blocks f zero s = s
with_blocks f (suc i) s = set (with_blocks f i s) (i * line_words + 7) (f i)

-- the box of block b
abbrev pub block_box : List ℕ → ℕ → Rect
block_box s b =
    record {
      x0 = get_or s (b * block_words) 0;
      y0 = get_or s (b * block_words + 1) 0;
      x1 = get_or s (b * block_words + 2) 0;
      y1 = get_or s (b * block_words + 3) 0;
    }

-- the words of a block with box r and n lines
abbrev pub block_fields : Rect → ℕ → List ℕ
block_fields r n = r.x0 ∷ r.y0 ∷ r.x1 ∷ r.y1 ∷ n ∷ []

-- a line with box l is added to block b, of `count` so far
pub record Grown (l : Rect) (b count : ℕ) (s s' : List ℕ) (r : ℕ) : Type 0 where
  pub first : b ≡ count → (s' ≡ sets s (b * block_words) (block_fields l 1)) × (r ≡ count + 1)
  pub later : b < count → (s' ≡ sets s (b * block_words) (block_fields (union (block_box s b) l) (get_or s (b * block_words + 4) 0 + 1))) × (r ≡ count)

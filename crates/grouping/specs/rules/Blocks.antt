-- Blocks of lines, from the boxes of the lines in their order (01, part 8).
use Rattle.std.specs.Prelude.{ℕ, ◌+◌, ◌-◌, min, max, Bool, ◌&&◌, List, [], ◌∷◌, ◌++◌, map, Float, get_or, length, eqb, ltb, leb}
use Rattle.std.specs.Float.{binary64}
use Rattle.std.specs.Float.Ieee.{le, add}
use Rattle.memory.specs.rules.Lists.{upto, keep, count_if}
use Rattle.memory.specs.rules.Rects.{width, height, union}
use Rattle.union_find.specs.rules.Classes.{first_of, firsts}
use Rattle.memory.specs.declared.rect.Rect.{Rect}
use Rattle.params.specs.declared.LayoutParams.{LayoutParams}
use Rattle.rounding.specs.rules.Lengths.{float, ◌·◌, dots}
use Rattle.sorting.specs.rules.Units.{median}

-- the gap from line a to line b: y0 of b − y1 of a − 1; below 0 it is 0, which passes the same limits
abbrev pub line_gap : Rect → Rect → ℕ
line_gap a b = b.y0 - (a.y1 + 1)

-- the columns that two lines share
abbrev pub shared_columns : Rect → Rect → ℕ
shared_columns a b = min a.x1 b.x1 + 1 - max a.x0 b.x0

-- the median height of the lines' boxes
unfoldable pub line_height : List Rect → Float
line_height ls = float (median (map height ls))

-- the greatest gap of a candidate: round(`block_max_gap_lines` × median line height)
unfoldable pub hard_cap : LayoutParams → List Rect → ℕ
hard_cap p ls = dots (p.block_max_gap_lines · line_height ls)

-- two lines share at least one column and at least `overlap` × the narrower width
abbrev pub overlapping : Float → Rect → Rect → Bool
overlapping overlap a b = ltb 0 (shared_columns a b) && le (overlap · float (min (width a) (width b))) (float (shared_columns a b))

-- a before b are candidates: gap at most the cap, and overlapping by `block_min_overlap`
unfoldable pub candidates : Float → ℕ → Rect → Rect → Bool
candidates overlap cap a b = leb (line_gap a b) cap && overlapping overlap a b

-- the least of some numbers; none of none
unfoldable pub least_of : List ℕ → List ℕ
least_of [] = []
least_of (g ∷ []) = g ∷ []
least_of (g ∷ (k ∷ l)) = map (min g) (least_of (k ∷ l))

-- the gaps from line a to its candidates among the lines after it
abbrev pub candidate_gaps : Float → ℕ → Rect → List Rect → List ℕ
candidate_gaps overlap cap a ls = map (line_gap a) (keep (candidates overlap cap a) ls)

-- each line with a candidate after it gives its least gap
unfoldable pub nearest_gaps : Float → ℕ → List Rect → List ℕ
nearest_gaps overlap cap [] = []
nearest_gaps overlap cap (a ∷ ls) = least_of (candidate_gaps overlap cap a ls) ++ nearest_gaps overlap cap ls

-- the greatest gap within a block: round(median of these + `block_gap_margin_lines` × median line height)
unfoldable pub max_gap : LayoutParams → List Rect → ℕ
max_gap p ls = dots (add binary64 (float (median (nearest_gaps p.block_min_overlap (hard_cap p ls) ls))) (p.block_gap_margin_lines · line_height ls))

abbrev pub no_rect : Rect
no_rect = record { x0 = 0; y0 = 0; x1 = 0; y1 = 0 }

-- lines i before j belong together: candidates with a gap at most that
unfoldable pub together : Float → ℕ → ℕ → List Rect → ℕ → ℕ → Bool
together overlap cap most ls i j =
    let a = get_or ls i no_rect in
    let b = get_or ls j no_rect in
    candidates overlap cap a b && leb (line_gap a b) most

-- for each line the first line of its block
unfoldable pub block_firsts : LayoutParams → List Rect → List ℕ
block_firsts p ls = let cap = hard_cap p ls in let most = max_gap p ls in firsts (together p.block_min_overlap cap most ls) (length ls)

-- whether line k is the first of its block
unfoldable pub opens_block : List ℕ → ℕ → Bool
opens_block fs k = eqb (first_of fs k) k

-- the number of line i's block: blocks are numbered by first line
unfoldable pub block_number : List ℕ → ℕ → ℕ
block_number fs i = count_if (opens_block fs) (first_of fs i)

-- the least box around r and the others
unfoldable pub union_all : Rect → List Rect → Rect
union_all r [] = r
union_all r (a ∷ l) = union a (union_all r l)

-- a block: the box around its lines, and their numbers
pub record Block : Type 0 where
  pub bbox : Rect
  pub lines : List ℕ

-- the block that line k opens
unfoldable pub block_of : List Rect → List ℕ → ℕ → Block
block_of ls fs k =
    let own = keep (λ i. eqb (first_of fs i) k) (upto (length ls)) in
    record { bbox = union_all (get_or ls k no_rect) (map (λ i. get_or ls i no_rect) own); lines = own }

-- all blocks, by number
unfoldable pub blocks_of : List Rect → List ℕ → List Block
blocks_of ls fs = map (block_of ls fs) (keep (opens_block fs) (upto (length ls)))

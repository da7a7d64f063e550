-- Columns of the page, from the boxes of the lines (01, part 8).
use Rattle.std.specs.Prelude.{ℕ, ◌+◌, ◌-◌, Bool, cond, ◌&&◌, List, [], ◌∷◌, Float, length, ltb, leb}
use Rattle.std.specs.Float.Ieee.{lt}
use Rattle.memory.specs.rules.Lists.{table, upto, keep, greatest}
use Rattle.memory.specs.declared.rect.Rect.{Rect}
use Rattle.params.specs.declared.LayoutParams.{LayoutParams}
use Rattle.rounding.specs.rules.Lengths.{float, ◌·◌, dots}
use Rattle.grouping.specs.declared.column.Column.{Column}

-- how many lines lie over frame column x
unfoldable pub cover : List Rect → ℕ → ℕ
cover ls x = length (keep (λ (r : Rect). leb r.x0 x && leb x r.x1) ls)

-- a count of lines that is at least one and more than `frac` × the greatest count
abbrev pub enough_cover : Float → ℕ → ℕ → Bool
enough_cover frac busiest n = ltb 0 n && lt (frac · float busiest) (float n)

-- under at least one line and under more than `column_cover_frac` × the greatest count
unfoldable pub covered : LayoutParams → ℕ → List Rect → ℕ → Bool
covered p busiest ls x = enough_cover p.column_cover_frac busiest (cover ls x)

abbrev pub column : ℕ → ℕ → Column
column a b = record { x0 = a; x1 = b }

-- the run from a to b, then the frame columns xs: a run goes on over fewer than `gap` others
unfoldable pub columns_from : ℕ → ℕ → ℕ → List ℕ → List Column
columns_from gap a b [] = column a b ∷ []
columns_from gap a b (x ∷ xs) =
    let on = columns_from gap a x xs in
    let anew = column a b ∷ columns_from gap x x xs in
    cond (ltb (x - (b + 1)) gap) on anew

-- the runs of these frame columns
unfoldable pub column_runs : ℕ → List ℕ → List Column
column_runs gap [] = []
column_runs gap (x ∷ xs) = columns_from gap x x xs

-- the columns of a frame w wide; the gap is round(`column_gap_xh` × unit)
unfoldable pub columns_of : LayoutParams → Float → ℕ → List Rect → List Column
columns_of p unit w ls =
    let busiest = greatest (table (cover ls) w) in
    column_runs (dots (p.column_gap_xh · unit)) (keep (covered p busiest ls) (upto w))

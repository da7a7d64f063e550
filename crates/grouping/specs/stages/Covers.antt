-- Columns as a walk along the frame's columns, from counts of lines that start and end there.
use Rattle.std.specs.Prelude.{◌≡◌, ℕ, suc, ◌+◌, ◌-◌, ◌*◌, ◌≤◌, ◌<◌, cond, List, [], ◌∷◌, get_or, length, ltb}
use Rattle.grouping.specs.declared.column.Column.{Column}
use Rattle.grouping.specs.rules.Columns.{column}

-- the columns cs with the frame column x, right of them, more: `column_runs` as a walk along the frame's columns
unfoldable pub extended : ℕ → ℕ → List Column → List Column
extended gap x [] = column x x ∷ []
extended gap x (c ∷ []) = cond (ltb (x - (c.x1 + 1)) gap) (column c.x0 x ∷ []) (c ∷ column x x ∷ [])
extended gap x (c ∷ (d ∷ l)) = c ∷ extended gap x (d ∷ l)

-- f is the count of lines over each frame column: at s the lines that start there (w words), then those that end there (w words)
pub record CoverSteps (w : ℕ) (s : List ℕ) (f : ℕ → ℕ) : Type 0 where
  pub room : 2 * w ≤ length s
  pub first : 0 < w → get_or s 0 0 ≡ f 0
  pub next : (x : ℕ) → suc x < w → f (suc x) + get_or s (w + x) 0 ≡ f x + get_or s (suc x) 0
  pub ended : (x : ℕ) → x < w → get_or s (w + x) 0 ≤ f x
  pub fits : (x : ℕ) → f x ≤ 4294967295

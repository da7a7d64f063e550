-- Which skew is applied, and the shears that it gives (01, part 3).
use Rattle.std.specs.Prelude.{ℕ, min, max, false, cond, List, [], ◌∷◌, map, ℤ, pos, negsuc, ◌-ℤ◌, Float}
use Rattle.std.specs.Float.{nan, inf, fin}
use Rattle.std.specs.Float.Ieee.{le}
use Rattle.rounding.specs.rules.Rounding.{positive_zero}
use Rattle.rounding.specs.rules.Drift.{drift, drift_x}
use Rattle.params.specs.declared.LayoutParams.{LayoutParams}
use Rattle.levelling.specs.declared.shears.Drift.{Drift}

-- a float without its sign
unfoldable pub magnitude : Float → Float
magnitude nan = nan
magnitude (inf s) = inf false
magnitude (fin s m e) = fin false m e

-- v, the skew or the slope, where the skew's magnitude is at least the sheet's `shear_min_deg`, else 0
unfoldable pub applied : LayoutParams → Float → Float → Float
applied sheet skew v = cond (le sheet.shear_min_deg (magnitude skew)) v positive_zero

-- drift i of one or the other: the row drift of page column i, the column drift of frame row i
abbrev pub drift_of : Drift → Float → ℕ → ℤ
drift_of Drift.Row slope c = drift slope c
drift_of Drift.Column slope r = drift_x slope r

-- the lesser of two integers
abbrev pub minℤ : ℤ → ℤ → ℤ
minℤ (pos a) (pos b) = pos (min a b)
minℤ (pos a) (negsuc b) = negsuc b
minℤ (negsuc a) (pos b) = negsuc a
minℤ (negsuc a) (negsuc b) = negsuc (max a b)

-- the greater of two integers
abbrev pub greaterℤ : ℤ → ℤ → ℤ
greaterℤ (pos a) (pos b) = pos (max a b)
greaterℤ (pos a) (negsuc b) = pos a
greaterℤ (negsuc a) (pos b) = pos b
greaterℤ (negsuc a) (negsuc b) = negsuc (min a b)

-- an integer as a natural number, 0 for what lies below 0
abbrev pub natural : ℤ → ℕ
natural (pos n) = n
natural (negsuc n) = 0

-- the least of d and the entries
unfoldable pub least_entry : ℤ → List ℤ → ℤ
least_entry d [] = d
least_entry d (e ∷ t) = minℤ e (least_entry d t)

-- each table minus its least entry is the shear
unfoldable pub shear_of : List ℤ → List ℕ
shear_of [] = []
shear_of (d ∷ t) = let least = least_entry d t in map (λ (v : ℤ). natural (v -ℤ least)) (d ∷ t)

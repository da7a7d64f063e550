-- Boxes of dots (01, "Which language form to use": Rect with width, height and union; "Records lie in lent words").
use Rattle.std.specs.Prelude.{List, [], ◌∷◌, ℕ, ◌+◌, ◌-◌, min, max, get_or}
use Rattle.memory.specs.declared.rect.Rect.{Rect}

-- columns, both ends counted
abbrev pub width : Rect → ℕ
width r = r.x1 + 1 - r.x0

-- rows, both ends counted
abbrev pub height : Rect → ℕ
height r = r.y1 + 1 - r.y0

-- the least box around both
abbrev pub union : Rect → Rect → Rect
union a b = record { x0 = min a.x0 b.x0; y0 = min a.y0 b.y0; x1 = max a.x1 b.x1; y1 = max a.y1 b.y1 }

-- a box as four words
abbrev pub box_words : Rect → List ℕ
box_words r = r.x0 ∷ r.y0 ∷ r.x1 ∷ r.y1 ∷ []

-- the box in the four words from word `at` on
abbrev pub box_at : List ℕ → ℕ → Rect
box_at s at = record { x0 = get_or s at 0; y0 = get_or s (at + 1) 0; x1 = get_or s (at + 2) 0; y1 = get_or s (at + 3) 0 }

-- A component's record as nine words (01, Limits: area, x0, y0, x1, y1, sum of x, sum of y, low word first).
use Rattle.std.specs.Prelude.{List, [], ◌∷◌, ℕ, ◌/◌, ◌%◌}
use Rattle.labelling.specs.declared.component.Component.{Component}

-- the words of a record
abbrev pub record_words : Component → List ℕ
record_words c =
    c.area ∷ c.x0 ∷ c.y0 ∷ c.x1 ∷ c.y1
    ∷ c.sum_x % 4294967296 ∷ c.sum_x / 4294967296 ∷ c.sum_y % 4294967296 ∷ c.sum_y / 4294967296 ∷ []

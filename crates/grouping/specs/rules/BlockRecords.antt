-- Blocks and columns as words (01, "Records lie in lent words"), in the order of 01's printed sheet.
use Rattle.std.specs.Prelude.{List, [], ◌∷◌, ℕ, length}
use Rattle.grouping.specs.rules.Blocks.{Block}
use Rattle.grouping.specs.declared.column.Column.{Column}

-- how many words a record has
abbrev pub block_words : ℕ
block_words = 5

abbrev pub column_words : ℕ
column_words = 2

-- a block: box, line count
abbrev pub block_record : Block → List ℕ
block_record b = b.bbox.x0 ∷ b.bbox.y0 ∷ b.bbox.x1 ∷ b.bbox.y1 ∷ length b.lines ∷ []

-- a column: both ends
abbrev pub column_record : Column → List ℕ
column_record c = c.x0 ∷ c.x1 ∷ []

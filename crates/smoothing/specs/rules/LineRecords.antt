-- Lines and glyphs as words (01, "Records lie in lent words"), in the order of 01's printed sheet.
use Rattle.std.specs.Prelude.{List, [], ◌∷◌, ℕ}
use Rattle.smoothing.specs.rules.Lines.{TextLine, GlyphBox}

-- how many words a record has
abbrev pub line_words : ℕ
line_words = 8

abbrev pub glyph_words : ℕ
glyph_words = 6

-- a line: box, glyphs, ink, glyph height, block
abbrev pub line_record : TextLine → List ℕ
line_record t =
    t.bbox.x0 ∷ t.bbox.y0 ∷ t.bbox.x1 ∷ t.bbox.y1 ∷ t.glyphs ∷ t.ink_area ∷ t.glyph_height ∷ t.block ∷ []

-- a glyph: box, area, line
abbrev pub glyph_record : GlyphBox → List ℕ
glyph_record g = g.bbox.x0 ∷ g.bbox.y0 ∷ g.bbox.x1 ∷ g.bbox.y1 ∷ g.area ∷ g.line ∷ []

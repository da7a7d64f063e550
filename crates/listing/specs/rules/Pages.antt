-- The printed sheet of a page (01, "Leaves to try"): what each entry, a line of it, says: its kind and then its numbers, and the digits that each number has.
use Rattle.std.specs.Prelude.{ℕ, List, [], ◌∷◌, ◌++◌, map, get_or, length}
use Rattle.std.specs.Float.{binary64}
use Rattle.std.specs.Float.Ieee.{to_bits}
use Rattle.memory.specs.declared.rect.Rect.{Rect}
use Rattle.sorting.specs.rules.Units.{unit_value}
use Rattle.grouping.specs.rules.Blocks.{Block}
use Rattle.sorting.specs.rules.Sorted.{KindCounts}
use Rattle.smoothing.specs.rules.Lines.{TextLine, GlyphBox}
use Rattle.segmenting.specs.rules.Layouts.{Page}
use Rattle.grouping.specs.declared.column.Column.{Column}
use Rattle.listing.specs.rules.Digits.{hex, line_feed}

-- the edition that is printed
abbrev pub edition : ℕ
edition = 1

-- the digits of a line's or a block's number, and of a count of lines
abbrev pub number_digits : ℕ
number_digits = 3

-- the digits of each number of an entry, by kind
abbrev pub formats : List (List ℕ)
formats =
    -- 0, the head: edition, frame width and height, page width and height, unit as f64 bits
    (2 ∷ 4 ∷ 4 ∷ 4 ∷ 4 ∷ 16 ∷ [])
    -- 1, a line: box, glyphs, ink, glyph height, block
    ∷ (4 ∷ 4 ∷ 4 ∷ 4 ∷ 8 ∷ 8 ∷ 4 ∷ number_digits ∷ [])
    -- 2, a block: box, line count
    ∷ (4 ∷ 4 ∷ 4 ∷ 4 ∷ number_digits ∷ [])
    -- 3, a rule: box
    ∷ (4 ∷ 4 ∷ 4 ∷ 4 ∷ [])
    -- 4, a graphic: box
    ∷ (4 ∷ 4 ∷ 4 ∷ 4 ∷ [])
    -- 5, a glyph: box, area, line
    ∷ (4 ∷ 4 ∷ 4 ∷ 4 ∷ 8 ∷ number_digits ∷ [])
    -- 6, a column: both ends
    ∷ (4 ∷ 4 ∷ [])
    -- 7, the dots: ink, cut, rule, graphic, glyph, speck
    ∷ (8 ∷ 8 ∷ 8 ∷ 8 ∷ 8 ∷ 8 ∷ [])
    ∷ []

-- What each entry says

-- a box: x0, y0, x1, y1
abbrev pub corners : Rect → List ℕ
corners r = r.x0 ∷ r.y0 ∷ r.x1 ∷ r.y1 ∷ []

-- 0: edition, frame width and height, page width and height, unit as f64 bits
unfoldable pub head_figures : Page → List ℕ
head_figures p =
    let f = p.levelled.frame in
    0 ∷ edition ∷ f.w ∷ f.h ∷ f.page_w ∷ f.page_h ∷ to_bits binary64 (unit_value p.layout.unit) ∷ []

-- 1: line: box, glyphs, ink, glyph height, block
unfoldable pub line_figures : TextLine → List ℕ
line_figures t = 1 ∷ corners t.bbox ++ (t.glyphs ∷ t.ink_area ∷ t.glyph_height ∷ t.block ∷ [])

-- 2: block: box, line count
unfoldable pub block_figures : Block → List ℕ
block_figures b = 2 ∷ corners b.bbox ++ (length b.lines ∷ [])

-- 5: glyph: box, area, line
unfoldable pub glyph_figures : GlyphBox → List ℕ
glyph_figures g = 5 ∷ corners g.bbox ++ (g.area ∷ g.line ∷ [])

-- 6: column: both ends
unfoldable pub column_figures : Column → List ℕ
column_figures c = 6 ∷ c.x0 ∷ c.x1 ∷ []

-- 7: ink, cut, rule, graphic, glyph, speck
unfoldable pub dot_figures : ℕ → KindCounts → List ℕ
dot_figures ink c = 7 ∷ ink ∷ c.cut ∷ c.rule ∷ c.graphic ∷ c.glyph ∷ c.speck ∷ []

-- kinds in order, entries of a kind by their number; 3 rule and 4 graphic: box
unfoldable pub figures : Page → List (List ℕ)
figures p =
    let l = p.layout in
    head_figures p ∷ []
    ++ map line_figures l.lines
    ++ map block_figures l.blocks
    ++ map (λ (r : Rect). 3 ∷ corners r) l.rules
    ++ map (λ (r : Rect). 4 ∷ corners r) l.graphics
    ++ map glyph_figures l.glyphs
    ++ map column_figures l.columns
    ++ (dot_figures l.ink_pixels l.counts ∷ [])

-- In digits

-- numbers in so many digits each
unfoldable pub numbers_text : List ℕ → List ℕ → List ℕ
numbers_text [] l = []
numbers_text (n ∷ ns) [] = []
numbers_text (n ∷ ns) (v ∷ l) = hex n v ++ numbers_text ns l

-- an entry: two digits of kind, its numbers, a line feed
unfoldable pub figure_text : List ℕ → List ℕ
figure_text [] = []
figure_text (kind ∷ l) = hex 2 kind ++ numbers_text (get_or formats kind []) l ++ (line_feed ∷ [])

-- all entries
unfoldable pub figures_text : List (List ℕ) → List ℕ
figures_text [] = []
figures_text (l ∷ ls) = figure_text l ++ figures_text ls

-- the printed sheet of a page
unfoldable pub page_sheet : Page → List ℕ
page_sheet p = figures_text (figures p)

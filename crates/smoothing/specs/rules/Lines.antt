-- Text lines, and the line of each glyph (01, part 7).
use Rattle.std.specs.Prelude.{ℕ, suc, Bool, true, false, ◌&&◌, ◌||◌, List, [], ◌∷◌, map, Float, get_or, length, eqb, ltb, leb}
use Rattle.std.specs.Float.Ieee.{le}
use Rattle.memory.specs.rules.Lists.{table, upto, keep, total, index_from, sort_by}
use Rattle.memory.specs.rules.Limits.{no_line}
use Rattle.memory.specs.rules.Rects.{height}
use Rattle.labelling.specs.rules.Components.{no_dots, box_of}
use Rattle.labelling.specs.rules.Labels.{Labelling}
use Rattle.memory.specs.declared.rect.Rect.{Rect}
use Rattle.labelling.specs.declared.component.Component.{Component}
use Rattle.params.specs.declared.LayoutParams.{LayoutParams}
use Rattle.rounding.specs.rules.Lengths.{float, ◌·◌}
use Rattle.sorting.specs.rules.Units.{median}
use Rattle.sorting.specs.rules.Kinds.{glyph_kind}

-- the first dot with the label k
unfoldable pub first_dot : List ℕ → ℕ → ℕ
first_dot labels k = index_from 0 0 k labels

-- a glyph, and the label of the smoothed component that holds it
pub record LabelledGlyph : Type 0 where
  pub component : Component
  pub label : ℕ

-- the glyphs by number; the smoothed component of each is that of its first dot
unfoldable pub labelled_glyphs : Labelling → List ℕ → Labelling → List LabelledGlyph
labelled_glyphs rest kinds smears =
    map (λ k. record { component = get_or rest.components k no_dots; label = get_or smears.labels (first_dot rest.labels (suc k)) 0 })
    (keep (λ k. eqb (get_or kinds k 0) glyph_kind) (upto (length rest.components)))

-- a smoothed component: its box, the number, ink and median height of its glyphs, its label
pub record SmoothedLine : Type 0 where
  pub bbox : Rect
  pub glyphs : ℕ
  pub ink_area : ℕ
  pub glyph_height : ℕ
  pub label : ℕ

-- the smoothed component c with the label t
unfoldable pub smoothed_line : List LabelledGlyph → Component → ℕ → SmoothedLine
smoothed_line gs c t =
    let own = keep (λ (g : LabelledGlyph). eqb g.label t) gs in
    record {
      bbox = box_of c;
      glyphs = length own;
      ink_area = total (map (λ (g : LabelledGlyph). g.component.area) own);
      glyph_height = median (map (λ (g : LabelledGlyph). height (box_of g.component)) own);
      label = t;
    }

-- no line: what stands where there is none
abbrev pub no_smoothed_line : SmoothedLine
no_smoothed_line = record { bbox = box_of no_dots; glyphs = 0; ink_area = 0; glyph_height = 0; label = 0 }

-- a smoothed component is a line: at least `line_min_glyphs` glyphs, and a height within the two line heights × unit
unfoldable pub is_line : LayoutParams → Float → ℕ → ℕ → Bool
is_line p unit glyphs high =
    leb p.line_min_glyphs glyphs && le (p.line_min_height_xh · unit) (float high) && le (float high) (p.line_max_height_xh · unit)

-- the order of keys: by the first that differ
unfoldable pub keys_at_most : List ℕ → List ℕ → Bool
keys_at_most [] l = true
keys_at_most (a ∷ k) [] = false
keys_at_most (a ∷ k) (b ∷ l) = ltb a b || (eqb a b && keys_at_most k l)

-- lines are sorted by y0, x0, y1, x1, ties by label
abbrev pub line_keys : SmoothedLine → List ℕ
line_keys l = l.bbox.y0 ∷ l.bbox.x0 ∷ l.bbox.y1 ∷ l.bbox.x1 ∷ l.label ∷ []

-- the lines among the smoothed components, in order
unfoldable pub kept_lines : LayoutParams → Float → List LabelledGlyph → List Component → List SmoothedLine
kept_lines p unit gs smears =
    sort_by (λ (a b : SmoothedLine). keys_at_most (line_keys a) (line_keys b))
    (keep (λ (l : SmoothedLine). is_line p unit l.glyphs (height l.bbox)) (table (λ t. smoothed_line gs (get_or smears t no_dots) (suc t)) (length smears)))

-- the number of the line with this label, or the mark of a glyph in no line
unfoldable pub line_number : List SmoothedLine → ℕ → ℕ
line_number ls label = index_from no_line 0 label (map (λ (l : SmoothedLine). l.label) ls)

-- a line: its box, the number, ink and median height of its glyphs, its block
pub record TextLine : Type 0 where
  pub bbox : Rect
  pub glyphs : ℕ
  pub ink_area : ℕ
  pub glyph_height : ℕ
  pub block : ℕ

-- a glyph: its box and area, its line or the mark
pub record GlyphBox : Type 0 where
  pub bbox : Rect
  pub area : ℕ
  pub line : ℕ

-- a glyph with its line
unfoldable pub glyph_box : List SmoothedLine → LabelledGlyph → GlyphBox
glyph_box ls g = record { bbox = box_of g.component; area = g.component.area; line = line_number ls g.label }

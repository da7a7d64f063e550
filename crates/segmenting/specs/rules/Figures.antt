-- The figures of a segmentation: what is told besides its lists, and the words that tell it (01, part 5, part 6, "Added by us").
use Rattle.std.specs.Prelude.{List, [], ◌∷◌, ℕ, ◌/◌, ◌%◌, ◌^◌, length}
use Rattle.std.specs.Float.{binary64}
use Rattle.std.specs.Float.Ieee.{to_bits}
use Rattle.sorting.specs.rules.Units.{unit_value}
use Rattle.sorting.specs.declared.Unit.{Unit}
use Rattle.sorting.specs.declared.Unit.TheVariants.{Measured, Assumed}
use Rattle.segmenting.specs.rules.Layouts.{Layout}
use Rattle.segmenting.specs.declared.results.Segmentation.{Segmentation}

-- what is told of a layout besides its lists: the unit, how long each list is, the dots of ink and of each kind
abbrev pub figures_of : Layout → Segmentation
figures_of l =
    record {
      unit = l.unit;
      rules = length l.rules;
      graphics = length l.graphics;
      glyphs = length l.glyphs;
      lines = length l.lines;
      blocks = length l.blocks;
      columns = length l.columns;
      ink = l.ink_pixels;
      cut = l.counts.cut;
      rule = l.counts.rule;
      graphic = l.counts.graphic;
      glyph = l.counts.glyph;
      speck = l.counts.speck;
    }

-- how many words the figures take
abbrev pub figures_length : ℕ
figures_length = 15

-- 1 where the unit is measured
abbrev pub measured_word : Unit → ℕ
measured_word (Measured v) = 1
measured_word (Assumed v) = 0

-- the figures in words: the unit, low word first, the lengths of the lists, the dots of ink and of each kind
unfoldable pub figure_words : Segmentation → List ℕ
figure_words f =
    measured_word f.unit
    ∷ (to_bits binary64 (unit_value f.unit) % 2 ^ 32)
    ∷ (to_bits binary64 (unit_value f.unit) / 2 ^ 32)
    ∷ f.rules
    ∷ f.graphics
    ∷ f.glyphs
    ∷ f.lines
    ∷ f.blocks
    ∷ f.columns
    ∷ f.ink
    ∷ f.cut
    ∷ f.rule
    ∷ f.graphic
    ∷ f.glyph
    ∷ f.speck
    ∷ []

-- The kind of each component and of each dot, 01's sort: 0 blank, 1 cut ruling, 2 rule, 3 graphic, 4 glyph, 5 speck (01, part 6 and "Added by us").
use Rattle.std.specs.Prelude.{ℕ, Bool, cond, ◌&&◌, ◌||◌, List, ◌∷◌, Float, get_or, ltb}
use Rattle.std.specs.Float.Ieee.{le}
use Rattle.memory.specs.rules.Rects.{width, height}
use Rattle.labelling.specs.rules.Components.{box_of}
use Rattle.memory.specs.rules.Masks.{is_ink}
use Rattle.labelling.specs.declared.component.Component.{Component}
use Rattle.params.specs.declared.LayoutParams.{LayoutParams}
use Rattle.rounding.specs.rules.Lengths.{float, ◌·◌}
use Rattle.sorting.specs.rules.Units.{side_extent}

-- in a cut mask
abbrev pub cut_kind : ℕ
cut_kind = 1

abbrev pub rule_kind : ℕ
rule_kind = 2

abbrev pub graphic_kind : ℕ
graphic_kind = 3

abbrev pub glyph_kind : ℕ
glyph_kind = 4

abbrev pub speck_kind : ℕ
speck_kind = 5

-- one side at least `rule_min_len_xh` × unit, the other at most `rule_max_thick_xh` × unit
abbrev pub is_rule : LayoutParams → Float → ℕ → ℕ → Bool
is_rule p unit long thin = le (p.rule_min_len_xh · unit) (float long) && le (float thin) (p.rule_max_thick_xh · unit)

-- both sides at least `graphic_min_xh` × unit, or a side not under its extent
abbrev pub is_graphic : LayoutParams → Float → ℕ → ℕ → ℕ → ℕ → Bool
is_graphic p unit w h a b =
    (le (p.graphic_min_xh · unit) (float a) && le (p.graphic_min_xh · unit) (float b))
    || le (side_extent p w) (float a)
    || le (side_extent p h) (float b)

-- the kind of a component a wide and b high, tested in this order: rule, graphic, speck (area below `glyph_min_area`), glyph; w and h are the frame's sides
abbrev pub kind_by_size : LayoutParams → Float → ℕ → ℕ → ℕ → ℕ → ℕ → ℕ
kind_by_size p unit w h area a b =
    cond (is_rule p unit a b || is_rule p unit b a) rule_kind
    (cond (is_graphic p unit w h a b) graphic_kind
    (cond (ltb area p.glyph_min_area) speck_kind glyph_kind))

-- the kind of a component
abbrev pub kind_of : LayoutParams → Float → ℕ → ℕ → Component → ℕ
kind_of p unit w h c = kind_by_size p unit w h c.area (width (box_of c)) (height (box_of c))

-- the kind of dot i: cut in either cut mask, once; else its component's, by its label after the cut; 0 with no label
unfoldable pub kind_at : List ℕ → List ℕ → List ℕ → List ℕ → ℕ → ℕ
kind_at horizontal vertical labels kinds i = cond (is_ink horizontal i || is_ink vertical i) cut_kind (get_or (0 ∷ kinds) (get_or labels i 0) 0)

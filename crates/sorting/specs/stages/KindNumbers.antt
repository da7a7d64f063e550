-- The code's kinds and the numbers that 01's sort has for them.
use Rattle.std.specs.Prelude.{ℕ}
use Rattle.sorting.specs.rules.Kinds.{cut_kind, rule_kind, graphic_kind, glyph_kind, speck_kind}
use Rattle.sorting.specs.declared.kinds.Kind.{Kind}
use Rattle.sorting.specs.declared.kinds.Kind.TheVariants.{Cut, Rule, Graphic, Glyph, Speck}

-- the number of a kind
abbrev pub number_of : Kind → ℕ
number_of Cut = cut_kind
number_of Rule = rule_kind
number_of Graphic = graphic_kind
number_of Glyph = glyph_kind
number_of Speck = speck_kind

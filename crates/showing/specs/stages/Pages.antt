-- The page that four numbers and a mask say, with the show program's sheet: `leaf_shown` of what an input says.
use Rattle.std.specs.Prelude.{ℕ, List}
use Rattle.std.specs.Float.{binary64}
use Rattle.std.specs.Float.Ieee.{of_bits}
use Rattle.params.specs.rules.ShowSheets.{show_sheet}
use Rattle.judging.specs.rules.Leaves.{Leaf, leaf_of}
use Rattle.showing.specs.rules.Shows.{show_capacity}

-- mask, width, height, skew and slope as f64 bits
abbrev pub page_shown : List ℕ → ℕ → ℕ → ℕ → ℕ → Leaf
page_shown mask w h skew slope = leaf_of mask w h (of_bits binary64 skew) (of_bits binary64 slope) show_sheet show_capacity

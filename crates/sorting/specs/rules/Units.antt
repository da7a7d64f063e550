-- The median, and the x-height as 01's unit (01, part 5).
use Rattle.std.specs.Prelude.{ℕ, ◌/◌, Bool, ◌&&◌, List, [], ◌∷◌, map, Float, get_or, length, leb}
use Rattle.std.specs.Float.Ieee.{lt}
use Rattle.memory.specs.rules.Lists.{keep, sort_by}
use Rattle.memory.specs.rules.Rects.{width, height}
use Rattle.labelling.specs.rules.Components.{box_of}
use Rattle.labelling.specs.declared.component.Component.{Component}
use Rattle.params.specs.declared.LayoutParams.{LayoutParams}
use Rattle.rounding.specs.rules.Lengths.{float, ◌·◌}
use Rattle.sorting.specs.declared.Unit.{Unit}
use Rattle.sorting.specs.declared.Unit.TheVariants.{Measured, Assumed}

-- the element at half the length, rounded down, of the sorted list; 0 of none
unfoldable pub median : List ℕ → ℕ
median l = get_or (sort_by leb l) (length l / 2) 0

-- the extent of a side of the frame: `glyph_max_extent_frac` × that side
abbrev pub side_extent : LayoutParams → ℕ → Float
side_extent p side = p.glyph_max_extent_frac · float side

-- each side of a component under its extent; w and h are the frame's sides
unfoldable pub under_extents : LayoutParams → ℕ → ℕ → Component → Bool
under_extents p w h c = lt (float (width (box_of c))) (side_extent p w) && lt (float (height (box_of c))) (side_extent p h)

-- a component whose height counts: area at least `glyph_min_area` and `xheight_min_area`, each side under its extent
unfoldable pub measurable : LayoutParams → ℕ → ℕ → Component → Bool
measurable p w h c = leb p.glyph_min_area c.area && leb p.xheight_min_area c.area && under_extents p w h c

-- the median of these heights, measured; `xheight_fallback_px`, assumed, where there are none
unfoldable pub unit_from : LayoutParams → List ℕ → Unit
unit_from p [] = Assumed p.xheight_fallback_px
unit_from p (a ∷ l) = Measured (float (median (a ∷ l)))

-- the unit that these components give
unfoldable pub unit_of : LayoutParams → ℕ → ℕ → List Component → Unit
unit_of p w h cs = unit_from p (map (λ (c : Component). height (box_of c)) (keep (measurable p w h) cs))

-- its value
abbrev pub unit_value : Unit → Float
unit_value (Measured v) = v
unit_value (Assumed v) = v

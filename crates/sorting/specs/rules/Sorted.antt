-- A whole ink plane sorted (01, parts 4 to 6).
use Rattle.std.specs.Prelude.{ℕ, ◌+◌, ◌*◌, List, ◌++◌, map, eqb}
use Rattle.memory.specs.rules.Lists.{table, keep, occurs}
use Rattle.labelling.specs.rules.Components.{box_of}
use Rattle.labelling.specs.rules.Labels.{Labelling, labelling}
use Rattle.memory.specs.declared.rect.Rect.{Rect}
use Rattle.labelling.specs.declared.component.Component.{Component}
use Rattle.params.specs.declared.LayoutParams.{LayoutParams}
use Rattle.rulings.specs.rules.Rulings.{run_min, thick_max, cut_horizontal, cut_vertical, after_cut}
use Rattle.sorting.specs.rules.Units.{unit_of, unit_value}
use Rattle.sorting.specs.rules.Kinds.{kind_of, kind_at, cut_kind, rule_kind, graphic_kind, glyph_kind, speck_kind}
use Rattle.sorting.specs.declared.Unit.{Unit}

-- the unit after the cut; the labellings of the ink, of the two cut masks and of the ink after the cut; the kind of each component after the cut and of each dot
pub record Sorted : Type 0 where
  pub unit : Unit
  pub ink : Labelling
  pub horizontal : Labelling
  pub vertical : Labelling
  pub rest : Labelling
  pub kinds : List ℕ
  pub plane : List ℕ

-- unit, cut, label and measure anew, kinds: of an ink plane w wide and h high
unfoldable pub sorted : LayoutParams → ℕ → ℕ → List ℕ → Sorted
sorted p w h m =
    let ink = labelling w h m in
    let first = unit_value (unit_of p w h ink.components) in
    let a = cut_horizontal (run_min p first) (thick_max p first) w h m in
    let b = cut_vertical (run_min p first) (thick_max p first) w h m in
    let rest = labelling w h (after_cut w h a b m) in
    let unit = unit_of p w h rest.components in
    let kinds = map (kind_of p (unit_value unit) w h) rest.components in
    record {
      unit = unit;
      ink = ink;
      horizontal = labelling w h a;
      vertical = labelling w h b;
      rest = rest;
      kinds = kinds;
      plane = table (kind_at a b rest.labels kinds) (w * h);
    }

-- the boxes of the components of kind k, by number
unfoldable pub boxes_of : LayoutParams → ℕ → ℕ → Sorted → ℕ → List Rect
boxes_of p w h s k = map box_of (keep (λ (c : Component). eqb (kind_of p (unit_value s.unit) w h c) k) s.rest.components)

-- `rules`: horizontal cuts, vertical cuts, then rule components
unfoldable pub rules_of : LayoutParams → ℕ → ℕ → Sorted → List Rect
rules_of p w h s = map box_of s.horizontal.components ++ map box_of s.vertical.components ++ boxes_of p w h s rule_kind

-- `graphics`
unfoldable pub graphics_of : LayoutParams → ℕ → ℕ → Sorted → List Rect
graphics_of p w h s = boxes_of p w h s graphic_kind

-- how many dots are of each kind
pub record KindCounts : Type 0 where
  pub cut : ℕ
  pub rule : ℕ
  pub graphic : ℕ
  pub glyph : ℕ
  pub speck : ℕ

-- the dots of a plane of kinds, kind by kind (01, "Added by us": sorts 1 to 5)
unfoldable pub kind_counts : List ℕ → KindCounts
kind_counts plane =
    record {
      cut = occurs cut_kind plane;
      rule = occurs rule_kind plane;
      graphic = occurs graphic_kind plane;
      glyph = occurs glyph_kind plane;
      speck = occurs speck_kind plane;
    }

-- all of them: 01's sum, cut + rule + graphic + glyph + speck
abbrev pub sum_of_kinds : KindCounts → ℕ
sum_of_kinds c = c.cut + c.rule + c.graphic + c.glyph + c.speck

-- Where a segmentation keeps what it has found, in scratch of 4 words a dot + 16 × P + 64 (01, Limits).
use Rattle.std.specs.Prelude.{◌≡◌, List, [], ◌∷◌, map, ℕ, ◌+◌, ◌*◌, ◌≤◌, ◌<◌, get_or, length, take, drop}
use Rattle.memory.specs.rules.Lists.{occurs}
use Rattle.memory.specs.rules.Records.{encoded}
use Rattle.memory.specs.rules.Limits.{max_frame_width, max_frame_height, max_capacity, scratch_words}
use Rattle.labelling.specs.rules.Components.{box_of}
use Rattle.labelling.specs.rules.Labels.{labelling}
use Rattle.labelling.specs.stages.Sizes.{HoldsNumbers, HoldsSizes}
use Rattle.memory.specs.declared.rect.Rect.{Rect}
use Rattle.params.specs.rules.Facts.{ValidSheet}
use Rattle.params.specs.declared.LayoutParams.{LayoutParams}
use Rattle.rulings.specs.rules.Rulings.{run_min, thick_max, cut_horizontal, cut_vertical, after_cut}
use Rattle.sorting.specs.rules.Units.{unit_of, unit_value}
use Rattle.sorting.specs.rules.Sorted.{sorted}
use Rattle.sorting.specs.declared.Unit.{Unit}
use Rattle.sorting.specs.declared.plan.Plan.{Plan}

-- a mark for each dot; before it the runs at hand, with their parents
abbrev pub marks_at : ℕ → ℕ
marks_at dots = 3 * dots + 64

-- the boxes of the horizontal cuts, two words each; the last 16 × P words start here
abbrev pub horizontal_at : ℕ → ℕ
horizontal_at dots = 4 * dots + 64

-- the boxes of the vertical cuts, two words each
abbrev pub vertical_at : ℕ → ℕ → ℕ
vertical_at dots P = horizontal_at dots + 2 * P

-- the sizes of the components, five words each: of the mask at hand, in the end of the ink after the cut
abbrev pub sizes_at : ℕ → ℕ → ℕ
sizes_at dots P = horizontal_at dots + 4 * P

-- the kind of each component after the cut
abbrev pub kinds_at : ℕ → ℕ → ℕ
kinds_at dots P = horizontal_at dots + 9 * P

-- the sizes of the smoothed components, five words each
abbrev pub smears_at : ℕ → ℕ → ℕ
smears_at dots P = horizontal_at dots + 10 * P

-- a word for each component after the cut, then for each smoothed component
abbrev pub glyphs_at : ℕ → ℕ → ℕ
glyphs_at dots P = horizontal_at dots + 15 * P

-- all of them, as the code hands them on, for a frame w wide and h high
abbrev pub plan_of : ℕ → ℕ → ℕ → Plan
plan_of w h P =
    record {
      width = w;
      height = h;
      dots = w * h;
      capacity = P;
      marks = marks_at (w * h);
      horizontal = horizontal_at (w * h);
      vertical = vertical_at (w * h) P;
      sizes = sizes_at (w * h) P;
      kinds = kinds_at (w * h) P;
      smears = smears_at (w * h) P;
      glyphs = glyphs_at (w * h) P;
    }

-- f is `plan_of` of its sides and capacity, place by place
pub record Planned (f : Plan) : Type 0 where
  pub dots_is : f.dots ≡ f.width * f.height
  pub marks_is : f.marks ≡ marks_at (f.width * f.height)
  pub horizontal_is : f.horizontal ≡ horizontal_at (f.width * f.height)
  pub vertical_is : f.vertical ≡ vertical_at (f.width * f.height) f.capacity
  pub sizes_is : f.sizes ≡ sizes_at (f.width * f.height) f.capacity
  pub kinds_is : f.kinds ≡ kinds_at (f.width * f.height) f.capacity
  pub smears_is : f.smears ≡ smears_at (f.width * f.height) f.capacity
  pub glyphs_is : f.glyphs ≡ glyphs_at (f.width * f.height) f.capacity

-- a box as two words, its columns and its rows: no side of a frame reaches 2^15
abbrev pub packed : Rect → List ℕ
packed r = (r.x0 + 32768 * r.x1) ∷ (r.y0 + 32768 * r.y1) ∷ []

-- the mask of the ink after the cut
unfoldable pub ink_after_cut : LayoutParams → ℕ → ℕ → List ℕ → List ℕ
ink_after_cut p w h m =
    let first = unit_value (unit_of p w h (labelling w h m).components) in
    after_cut w h (cut_horizontal (run_min p first) (thick_max p first) w h m) (cut_vertical (run_min p first) (thick_max p first) w h m) m

-- an ink plane within the limits of a frame, a valid sheet, and scratch for it
pub record SortRoom (p : LayoutParams) (w h : ℕ) (m : List ℕ) (P : ℕ) (s : List ℕ) : Type 0 where
  pub wide : 0 < w
  pub narrow : w ≤ max_frame_width
  pub high : 0 < h
  pub low : h ≤ max_frame_height
  pub whole : length m ≡ w * h
  pub ones : (i : ℕ) → get_or m i 0 ≤ 1
  pub few : P ≤ max_capacity
  pub valid : ValidSheet p
  pub room : scratch_words (w * h) P ≤ length s

-- scratch holds an ink plane sorted: runs and numbers of the ink after the cut, sizes and kinds of its components, boxes of the cuts
pub record HoldsSorted (p : LayoutParams) (w h : ℕ) (m : List ℕ) (P : ℕ) (s : List ℕ) (runs : ℕ) : Type 0 where
  pub numbered : HoldsNumbers w h (ink_after_cut p w h m) s runs
  pub sizes : HoldsSizes (sorted p w h m).rest.components s (sizes_at (w * h) P)
  pub kinds : take (length (sorted p w h m).rest.components) (drop (kinds_at (w * h) P) s) ≡ (sorted p w h m).kinds
  pub horizontal : take (2 * length (sorted p w h m).horizontal.components) (drop (horizontal_at (w * h)) s) ≡ encoded packed (map box_of (sorted p w h m).horizontal.components)
  pub vertical : take (2 * length (sorted p w h m).vertical.components) (drop (vertical_at (w * h) P) s) ≡ encoded packed (map box_of (sorted p w h m).vertical.components)

-- what sorting tells besides: the unit, the dots of ink before the cut, how many cuts and components
pub record SortedFigures (p : LayoutParams) (w h : ℕ) (m : List ℕ) (unit : Unit) (ink horizontal vertical components : ℕ) : Type 0 where
  pub unit_is : unit ≡ (sorted p w h m).unit
  pub ink_is : ink ≡ occurs 1 m
  pub horizontal_is : horizontal ≡ length (sorted p w h m).horizontal.components
  pub vertical_is : vertical ≡ length (sorted p w h m).vertical.components
  pub components_is : components ≡ length (sorted p w h m).rest.components

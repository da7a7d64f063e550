-- Components by the five words of their sizes: what the unit, the kinds, the packed boxes and the count of ink dots are made of.
use Rattle.std.specs.Prelude.{◌≡◌, List, map, ℕ, ◌+◌, ◌*◌, ◌/◌, ◌%◌, ◌≤◌, ◌<◌, get_or, length}
use Rattle.memory.specs.rules.Lists.{table, keep, occurs}
use Rattle.memory.specs.rules.Rects.{height, box_at}
use Rattle.memory.specs.stages.Boxes.{Inside}
use Rattle.memory.specs.stages.Stored.{Within}
use Rattle.labelling.specs.rules.Components.{box_of}
use Rattle.memory.specs.declared.rect.Rect.{Rect}
use Rattle.labelling.specs.declared.component.Component.{Component}
use Rattle.params.specs.declared.LayoutParams.{LayoutParams}
use Rattle.sorting.specs.rules.Units.{measurable}
use Rattle.sorting.specs.stages.Scratch.{packed}

-- a component with its sums left out: unit, kinds and boxes do not ask for them
abbrev pub sized : Component → Component
sized c = record { area = c.area; x0 = c.x0; y0 = c.y0; x1 = c.x1; y1 = c.y1; sum_x = 0; sum_y = 0 }

-- the k-th component whose sizes stand from word `at` on
unfoldable pub sized_at : List ℕ → ℕ → ℕ → Component
sized_at s at k =
    record {
      area = get_or s (at + 5 * k) 0;
      x0 = get_or s (at + 5 * k + 1) 0;
      y0 = get_or s (at + 5 * k + 2) 0;
      x1 = get_or s (at + 5 * k + 3) 0;
      y1 = get_or s (at + 5 * k + 4) 0;
      sum_x = 0;
      sum_y = 0;
    }

-- its box alone, behind its area
abbrev pub size_box : List ℕ → ℕ → ℕ → Rect
size_box s at k = box_at s (at + 5 * k + 1)

-- the first n of them
abbrev pub sized_from : List ℕ → ℕ → ℕ → List Component
sized_from s at n = table (sized_at s at) n

-- the sizes of n components of a frame w wide and h high stand from word `at` on
pub record SizesInside (w h : ℕ) (s : List ℕ) (at n : ℕ) : Type 0 where
  pub room : at + 5 * n ≤ length s
  pub inside : (k : ℕ) → k < n → Inside w h (box_of (sized_at s at k))

-- the heights that count for the unit
abbrev pub measured_heights : LayoutParams → ℕ → ℕ → List Component → List ℕ
measured_heights p w h cs = map (λ (c : Component). height (box_of c)) (keep (measurable p w h) cs)

-- the heights of the first k components are counted, from word `at` on, and n is how many there are
pub record HeightsCounted (p : LayoutParams) (w h sizes at k n : ℕ) (s s' : List ℕ) : Type 0 where
  pub number : n ≡ length (measured_heights p w h (sized_from s sizes k))
  pub each : (v : ℕ) → v ≤ h → get_or s' (at + v) 0 ≡ occurs v (measured_heights p w h (sized_from s sizes k))
  pub within : Within at (at + h + 1) s s'

-- word i of the packed boxes of the components whose sizes stand from word `at` on, two words a box
abbrev pub box_word : List ℕ → ℕ → ℕ → ℕ
box_word s at i = get_or (packed (box_of (sized_at s at (i / 2)))) (i % 2) 0

-- the box that two words hold
abbrev pub unpacked : ℕ → ℕ → Rect
unpacked a b = record { x0 = a % 32768; y0 = b % 32768; x1 = a / 32768; y1 = b / 32768 }

-- A whole segmentation of an ink plane: what its stages leave in scratch (01, parts 4 to 8; 20 and 21).
use Rattle.std.specs.Prelude.{◌≡◌, List, map, ℕ, suc, ◌+◌, ◌*◌, ◌≤◌, ◌<◌, min, Float, get_or, length, take, drop, Result, Ok, Err, ◌⊎◌}
use Rattle.memory.specs.rules.Records.{encoded}
use Rattle.memory.specs.rules.Limits.{max_lines}
use Rattle.labelling.specs.rules.Components.{box_of}
use Rattle.labelling.specs.rules.Labels.{Labelling, labelling}
use Rattle.labelling.specs.stages.Sizes.{HoldsNumbers, HoldsSizes}
use Rattle.params.specs.declared.LayoutParams.{LayoutParams}
use Rattle.sorting.specs.rules.Units.{unit_value}
use Rattle.sorting.specs.rules.Kinds.{glyph_kind}
use Rattle.sorting.specs.rules.Sorted.{sorted}
use Rattle.sorting.specs.stages.Scratch.{horizontal_at, vertical_at, sizes_at, kinds_at, smears_at, glyphs_at, packed, ink_after_cut, SortRoom, HoldsSorted}
use Rattle.sorting.specs.rules.Capacity.{most_components}
use Rattle.smoothing.specs.rules.Smoothing.{smoothing_gap, smoothed}
use Rattle.smoothing.specs.rules.Lines.{first_dot, LabelledGlyph, labelled_glyphs, SmoothedLine, kept_lines}
use Rattle.smoothing.specs.stages.LineWords.{first_number, HoldsGlyphs, HoldsSmears}
use Rattle.smoothing.specs.declared.smears.Smears.{Smears}
use Rattle.smoothing.specs.declared.smears.SmearLabels.{SmearLabels}
use Rattle.memory.specs.declared.refusals.Refusal.{Refusal}
use Rattle.memory.specs.declared.refusals.Refusal.TheVariants.{TooManyComponents, TooManyLines}

-- the labelling of the smoothed glyphs
unfoldable pub smears_of : LayoutParams → ℕ → ℕ → List ℕ → Labelling
smears_of p w h m = labelling w h (smoothed (smoothing_gap p (unit_value (sorted p w h m).unit)) w h (sorted p w h m).plane)

-- the glyphs, each with the label of the smoothed component that holds it
unfoldable pub glyphs_in : LayoutParams → ℕ → ℕ → List ℕ → List LabelledGlyph
glyphs_in p w h m = labelled_glyphs (sorted p w h m).rest (sorted p w h m).kinds (smears_of p w h m)

-- the lines
unfoldable pub lines_in : LayoutParams → ℕ → ℕ → List ℕ → List SmoothedLine
lines_in p w h m = kept_lines p (unit_value (sorted p w h m).unit) (glyphs_in p w h m) (smears_of p w h m).components

-- the label of the smoothed component that holds component k: that of its first dot
abbrev pub glyph_label : LayoutParams → ℕ → ℕ → List ℕ → ℕ → ℕ
glyph_label p w h m k = get_or (smears_of p w h m).labels (first_dot (sorted p w h m).rest.labels (suc k)) 0

-- scratch holds all that the results are written from: runs and numbers after the cut, components with kinds and labels, smoothed components with their glyphs, boxes of the cuts
pub record HoldsPage (p : LayoutParams) (w h : ℕ) (m : List ℕ) (P : ℕ) (s : List ℕ) (runs : ℕ) : Type 0 where
  pub numbered : HoldsNumbers w h (ink_after_cut p w h m) s runs
  pub glyphs : HoldsGlyphs (sorted p w h m).rest.components (sorted p w h m).kinds (glyph_label p w h m) (sizes_at (w * h) P) (kinds_at (w * h) P) s
  pub smears : HoldsSmears (glyphs_in p w h m) (smears_of p w h m).components (smears_at (w * h) P) (glyphs_at (w * h) P) s
  pub horizontal : take (2 * length (sorted p w h m).horizontal.components) (drop (horizontal_at (w * h)) s) ≡ encoded packed (map box_of (sorted p w h m).horizontal.components)
  pub vertical : take (2 * length (sorted p w h m).vertical.components) (drop (vertical_at (w * h) P) s) ≡ encoded packed (map box_of (sorted p w h m).vertical.components)

-- an ink plane sorted in scratch, with its unit: no labelling of it has more than P components
pub record SortedPage (p : LayoutParams) (w h : ℕ) (m : List ℕ) (P : ℕ) (s : List ℕ) (unit : Float) (runs : ℕ) : Type 0 where
  pub room : SortRoom p w h m P s
  pub few : most_components (sorted p w h m) ≤ P
  pub held : HoldsSorted p w h m P s runs
  pub unit_is : unit ≡ unit_value (sorted p w h m).unit

-- the first smoothed run of a glyph is one of the smoothed runs, and the number that stands there is the glyph's label, one of the smoothed components
pub record GlyphNumbered (run number label runs smears : ℕ) : Type 0 where
  pub inside : run < runs
  pub number_is : number ≡ label
  pub some : 0 < label
  pub few : label ≤ smears

-- the smoothed runs stand behind the runs and are labelled: f tells how many components they have, or P + 1 where there are more; if not, sizes and labels stand in their places; the sorted plane is as it was
pub record SmearsLabelled (p : LayoutParams) (w h : ℕ) (m : List ℕ) (P : ℕ) (s s' : List ℕ) (runs : ℕ) (f : SmearLabels) : Type 0 where
  pub len : length s' ≡ length s
  pub count : f.smears ≡ min (length (smears_of p w h m).components) (P + 1)
  pub fits : 3 * runs + 3 * f.runs ≤ horizontal_at (w * h)
  pub front : (i : ℕ) → i < 3 * runs → get_or s' i 0 ≡ get_or s i 0
  pub between : (i : ℕ) → horizontal_at (w * h) ≤ i → i < smears_at (w * h) P → get_or s' i 0 ≡ get_or s i 0
  pub sizes : f.smears ≤ P → HoldsSizes (smears_of p w h m).components s' (smears_at (w * h) P)
  pub labels : f.smears ≤ P → (k : ℕ) → k < length (sorted p w h m).kinds → get_or (sorted p w h m).kinds k 0 ≡ glyph_kind
      → GlyphNumbered (get_or s' (glyphs_at (w * h) P + k) 0) (first_number s' (glyphs_at (w * h) P) (3 * runs + 2 * f.runs) k) (glyph_label p w h m k) f.runs f.smears

-- no more than P smoothed components and no more than 4,095 lines: scratch holds the page, and f how many there are
pub record SmearsHeld (p : LayoutParams) (w h : ℕ) (m : List ℕ) (P : ℕ) (s : List ℕ) (runs : ℕ) (f : Smears) : Type 0 where
  pub few : length (smears_of p w h m).components ≤ P
  pub few_lines : length (lines_in p w h m) ≤ max_lines
  pub held : HoldsPage p w h m P s runs
  pub smears_is : f.smears ≡ length (smears_of p w h m).components
  pub lines_is : f.lines ≡ length (lines_in p w h m)

-- more than P smoothed components, or else more lines than a page may have
abbrev pub SmearsRefused : Refusal → LayoutParams → ℕ → ℕ → List ℕ → ℕ → Type 0
SmearsRefused r p w h m P =
    ((r ≡ TooManyComponents) × (P < length (smears_of p w h m).components))
    ⊎ ((r ≡ TooManyLines) × (length (smears_of p w h m).components ≤ P) × (max_lines < length (lines_in p w h m)))

-- what each answer says of the plane m and of the words s that are left
abbrev pub smears_left : Result Smears Refusal → LayoutParams → ℕ → ℕ → List ℕ → ℕ → List ℕ → ℕ → Type 0
smears_left (Ok f) p w h m P s runs = SmearsHeld p w h m P s runs f
smears_left (Err r) p w h m P s runs = SmearsRefused r p w h m P

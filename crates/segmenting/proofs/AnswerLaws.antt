-- The answer of a whole segmentation: which number a page is refused with, and what it leaves.
use mathlib.Core.Path.{◌≡◌, refl, sym, ap, ◌∙◌}
use mathlib.Core.List.{List}
use mathlib.Core.Logic.{inl, inr}
use Prim.Native.Nat.{ℕ, ◌≤◌, ◌<◌, max}
use native.Mathlib.Omega.{arith}
use borrow.Author.Tests.{lt-ltb, le-ltb}
use lib.ListN.{length}
use Rattle.memory.specs.rules.Lists.{greatest}
use Rattle.memory.specs.rules.Limits.{max_lines}
use Rattle.memory.specs.rules.Refusals.{refuse_if}
use Rattle.memory.specs.rules.Words.{over}
use Rattle.memory.proofs.TableLaws.{length-table}
use Rattle.params.specs.declared.LayoutParams.{LayoutParams}
use Rattle.sorting.specs.stages.Scratch.{SortRoom}
use Rattle.sorting.specs.rules.Capacity.{most_components}
use Rattle.sorting.specs.rules.Sorted.{sorted}
use Rattle.sorting.specs.stages.SortSteps.{SortHeld}
use Rattle.sorting.specs.rules.Units.{unit_value}
use Rattle.sorting.specs.declared.sort.SortCounts.{SortCounts}
use Rattle.grouping.specs.rules.Blocks.{block_firsts}
use Rattle.segmenting.specs.rules.Layouts.{layout, greatest_count, layout_refusal, text_line}
use Rattle.segmenting.specs.rules.Answers.{segment_outcome, segment_outcome_by, segment_plane}
use Rattle.segmenting.specs.stages.Rooms.{SegmentRoom, SortedRoom}
use Rattle.segmenting.specs.rules.Results.{results_left}
use Rattle.smoothing.specs.stages.Segments.{smears_of, glyphs_in, lines_in, SmearsHeld, SmearsRefused, SortedPage}
use Rattle.segmenting.specs.rules.Figures.{figures_of}
use Rattle.segmenting.specs.stages.Writing.{boxes_of_lines, ResultsRoom}
use Rattle.std.specs.Prelude.{Ok, Err, Option, Some, None}
use Rattle.std.specs.Option.{ok_or}
use Rattle.memory.specs.declared.refusals.Refusal.{Refusal}
use Rattle.memory.specs.declared.refusals.Refusal.TheVariants.{TooManyComponents, TooManyLines}
use Rattle.segmenting.specs.declared.results.Segmentation.{Segmentation}
use Rattle.smoothing.specs.declared.smears.Smears.{Smears}

max-more : (a : ℕ) {x y : ℕ} → x ≤ y → max a x ≤ max a y
max-more a l = omega arith

max-fits : (a : ℕ) {x y P : ℕ} → max a x ≤ P → (x ≤ P → y ≤ P) → max a y ≤ P
max-fits a l f = let g = f (omega arith) in omega arith

module _ (p : LayoutParams) (w h : ℕ) (m : List ℕ) (P : ℕ) where
  most : ℕ
  most = greatest_count (layout p w h m).components

  -- the greatest of the five labellings is that of the four of sorting or that of the smoothed glyphs
  most-sorted : most_components (sorted p w h m) ≤ most
  unfolding most layout greatest
  most-sorted =
      max-more (length (sorted p w h m).ink.components)
      (max-more (length (sorted p w h m).horizontal.components)
      (max-more (length (sorted p w h m).vertical.components) (max-more (length (sorted p w h m).rest.components) (omega arith))))

  most-smears : length (smears_of p w h m).components ≤ most
  unfolding most layout greatest smears_of
  most-smears = omega arith

  most-few : most_components (sorted p w h m) ≤ P → length (smears_of p w h m).components ≤ P → most ≤ P
  unfolding most layout greatest smears_of
  most-few a b =
      max-fits (length (sorted p w h m).ink.components) a
      (λ a₁. max-fits (length (sorted p w h m).horizontal.components) a₁
      (λ a₂. max-fits (length (sorted p w h m).vertical.components) a₂ (λ a₃. max-fits (length (sorted p w h m).rest.components) a₃ (λ _. omega arith))))

  many-lines : length (layout p w h m).lines ≡ length (lines_in p w h m)
  unfolding layout lines_in glyphs_in smears_of
  many-lines = length-table (text_line (lines_in p w h m) (block_firsts p (boxes_of_lines (lines_in p w h m)))) (length (lines_in p w h m))

  refused-many : P < most → layout_refusal P (layout p w h m) ≡ 20
  unfolding layout_refusal refuse_if most
  refused-many l = rw (lt-ltb P (greatest_count (layout p w h m).components) l) refl

  refused-lines : most ≤ P → max_lines < length (lines_in p w h m) → layout_refusal P (layout p w h m) ≡ 21
  unfolding layout_refusal refuse_if most
  refused-lines a b =
      rw (le-ltb P (greatest_count (layout p w h m).components) a) (rw (lt-ltb max_lines (length (layout p w h m).lines) (let e = many-lines in omega arith)) refl)

  not-refused : most ≤ P → length (lines_in p w h m) ≤ max_lines → layout_refusal P (layout p w h m) ≡ 0
  unfolding layout_refusal refuse_if most
  not-refused a b =
      rw (le-ltb P (greatest_count (layout p w h m).components) a) (rw (le-ltb max_lines (length (layout p w h m).lines) (let e = many-lines in omega arith)) refl)

  module _ (results kinds : List ℕ) where
    by_number : (n : ℕ) → layout_refusal P (layout p w h m) ≡ n → segment_outcome_by n w P (layout p w h m) results kinds ≡ segment_plane p w h m P results kinds
    unfolding segment_plane
    by_number n e = ap (λ k. segment_outcome_by k w P (layout p w h m) results kinds) (sym e)

    left-many : P < most → segment_outcome (Err TooManyComponents) results kinds ≡ segment_plane p w h m P results kinds
    unfolding segment_outcome_by
    left-many l = by_number 20 (refused-many l)

    -- more than P components in a labelling of sorting
    pub sorted-many : P < most_components (sorted p w h m) → segment_outcome (Err TooManyComponents) results kinds ≡ segment_plane p w h m P results kinds
    sorted-many l = left-many (let a = most-sorted in omega arith)

    -- more than P smoothed components
    pub smears-refused : P < length (smears_of p w h m).components → segment_outcome (Err TooManyComponents) results kinds ≡ segment_plane p w h m P results kinds
    smears-refused l = left-many (let a = most-smears in omega arith)

    -- more lines than a page may have
    pub lines-refused : most_components (sorted p w h m) ≤ P → length (smears_of p w h m).components ≤ P → max_lines < length (lines_in p w h m)
        → segment_outcome (Err TooManyLines) results kinds ≡ segment_plane p w h m P results kinds
    unfolding segment_outcome_by
    lines-refused a b d = by_number 21 (refused-lines (most-few a b) d)

    pub page-refused : most_components (sorted p w h m) ≤ P → (r : Refusal) → SmearsRefused r p w h m P → segment_outcome (Err r) results kinds ≡ segment_plane p w h m P results kinds
    page-refused a r (inl (e, l)) = ap (λ z. segment_outcome (Err z) results kinds) e ∙ smears-refused l
    page-refused a r (inr (e, b, l)) = ap (λ z. segment_outcome (Err z) results kinds) e ∙ lines-refused a b l

    -- none of these
    pub page-segmented : most_components (sorted p w h m) ≤ P → length (smears_of p w h m).components ≤ P → length (lines_in p w h m) ≤ max_lines
        → (f : Segmentation) (results' kinds' : List ℕ) → f ≡ figures_of (layout p w h m) → results' ≡ results_left w P (layout p w h m) results
        → kinds' ≡ over (layout p w h m).plane kinds → segment_outcome (Ok f) results' kinds' ≡ segment_plane p w h m P results kinds
    unfolding segment_outcome_by
    page-segmented a b d f results' kinds' e₁ e₂ e₃ = (λ i. record { number = 0; figures = Some (e₁ i); results = e₂ i; plane = e₃ i }) ∙ by_number 0 (not-refused (most-few a b) d)

-- What the stages ask

room-kept : {p : LayoutParams} {w h : ℕ} {m : List ℕ} {P : ℕ} {s s' : List ℕ} → SortRoom p w h m P s → length s' ≡ length s → SortRoom p w h m P s'
room-kept S e =
    record {
      wide = S.wide;
      narrow = S.narrow;
      high = S.high;
      low = S.low;
      whole = S.whole;
      ones = S.ones;
      few = S.few;
      valid = S.valid;
      room = let a = S.room in omega arith;
    }

module _ {p : LayoutParams} {w h : ℕ} {m : List ℕ} {P : ℕ} {s : List ℕ} {found : SortCounts} {results kinds : ℕ} (R : SortedRoom p w h m P s found results kinds) where
  -- the smears
  pub smears-ask : {unit : _} → unit ≡ unit_value found.unit → SortedPage p w h m P s unit found.runs
  smears-ask e = record { room = R.room.plane; few = R.held.few; held = R.held.held; unit_is = e ∙ ap unit_value R.held.figures.unit_is }

  -- the results
  pub results-ask : (s' : List ℕ) (smears : Smears) → length s' ≡ length s → SmearsHeld p w h m P s' found.runs smears → ResultsRoom p w h m P s' found smears results
  results-ask s' smears e H =
      record {
        plane = room-kept R.room.plane e;
        few = R.held.few;
        figures = R.held.figures;
        held = H;
        results_room = R.room.results_room;
      }

-- the sorted plane
pub sorted-ask : {p : LayoutParams} {w h : ℕ} {m : List ℕ} {P : ℕ} {s : List ℕ} {results kinds : ℕ} → SegmentRoom p w h m P s results kinds
    → (s' : List ℕ) (found : SortCounts) → length s' ≡ length s → SortHeld p w h m P s' found → SortedRoom p w h m P s' found results kinds
sorted-ask R s' found e H = record { room = record { plane = room-kept R.plane e; results_room = R.results_room; kinds_room = R.kinds_room }; held = H }

-- the sorted plane, or none, as a result

pub sorted-found : (o : Option SortCounts) (f : SortCounts) → Ok f ≡ ok_or o TooManyComponents → o ≡ Some f
sorted-found None f e = absurd cc
sorted-found (Some g) f e = cc

pub sorted-refused : (o : Option SortCounts) (r : Refusal) → Err r ≡ ok_or o TooManyComponents → (o ≡ None) × (r ≡ TooManyComponents)
sorted-refused None r e = (refl, cc)
sorted-refused (Some g) r e = absurd cc

-- What the show program prints, from any bytes to the printed bytes (01, "Leaves to try").
use Rattle.std.specs.Prelude.{ℕ, cond, List, eqb, ltb, length}
use Rattle.std.specs.Float.{binary64}
use Rattle.std.specs.Float.Ieee.{of_bits}
use Rattle.memory.specs.rules.Refusals.{refuse_if}
use Rattle.memory.specs.rules.Words.{over}
use Rattle.params.specs.rules.ShowSheets.{show_sheet}
use Rattle.segmenting.specs.rules.Layouts.{layout_refusal}
use Rattle.judging.specs.rules.Leaves.{Leaf, leaf_of, levelling_of, layout_of}
use Rattle.judging.specs.rules.Refusals.{leaf_refusal}
use Rattle.listing.specs.rules.Digits.{refusal_text}
use Rattle.listing.specs.rules.Pages.{page_sheet}
use Rattle.store.specs.rules.Readings.Output.{words}
use Rattle.store.specs.rules.Outcomes.{Told, told_by}
use Rattle.showing.specs.rules.Inputs.{well_made, width_of, height_of, skew_of, slope_of, mask_of}

-- P (01, "The show program (pages to 16 × 16, P = 64)")
abbrev pub show_capacity : ℕ
show_capacity = 64

-- the page that a well made input says, with the show program's sheet
abbrev pub leaf_shown : List ℕ → Leaf
leaf_shown s = leaf_of (mask_of s) (width_of s) (height_of s) (of_bits binary64 (skew_of s)) (of_bits binary64 (slope_of s)) show_sheet show_capacity

-- the number that levelling or segmenting it is refused with, 0 where both are accepted
unfoldable pub leaf_number : Leaf → ℕ
leaf_number a = leaf_refusal a (layout_refusal a.capacity (layout_of a a.sheet))

-- its sheet, or the refusal
unfoldable pub leaf_text : Leaf → List ℕ
leaf_text a = cond (eqb (leaf_number a) 0) (page_sheet (record { levelled = levelling_of a; layout = layout_of a a.sheet })) (refusal_text (leaf_number a))

-- what is printed: input that is not well made has the refusal 0
unfoldable pub shown : List ℕ → List ℕ
shown s = cond (well_made s) (leaf_text (leaf_shown s)) (refusal_text 0)

-- the same over the front of the bytes lent, and how many they are; 9 where fewer bytes are lent
unfoldable pub shown_to : List ℕ → List ℕ → Told
shown_to s out = told_by (refuse_if (ltb (length out) (length (shown s))) 9 0) (length (shown s)) (words (over (shown s) out)) (words out)

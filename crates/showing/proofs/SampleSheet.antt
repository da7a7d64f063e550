-- The leaf that document 01 prints ("Leaves to try"): the checker computes its printed bytes from the bytes of its input.
use mathlib.Core.Path.{◌≡◌, refl, sym, ap, ◌∙◌}
use mathlib.Core.Bool.{true, cond}
use mathlib.Core.List.{List, []}
use Prim.Native.Nat.{ℕ}
use lib.Ieee.{binary64, of_bits}
use Rattle.memory.specs.rules.Lists.{table}
use Rattle.rounding.specs.rules.Lengths.{float}
use Rattle.segmenting.proofs.Computed.{computed}
use Rattle.segmenting.proofs.SampleLeaf.{sample_leaf, sample_mask}
use Rattle.segmenting.specs.rules.Layouts.{page}
use Rattle.params.specs.rules.ShowSheets.{show_sheet}
use Rattle.judging.specs.rules.Leaves.{Leaf, leaf_of}
use Rattle.memory.specs.rules.Masks.{is_mask}
use Rattle.judging.specs.rules.Refusals.{leaf_refusal}
use Rattle.judging.specs.rules.Spoiled.{skew_ok, slope_ok, every}
use Rattle.listing.specs.rules.Digits.{digit_of, hex, refusal_text}
use Rattle.listing.specs.rules.Pages.{page_sheet}
use Rattle.listing.proofs.SampleSheet.{bytes, sample_text, sample-text}
use Rattle.std.specs.Prelude.{Some}
use Rattle.showing.specs.rules.Inputs.{is_digit, digit_value, number_at, row_good, head_good, sides_good, well_made, dots_in, page_of, parsed, mask_of}
use Rattle.showing.specs.rules.Shows.{leaf_shown, leaf_number, leaf_text, shown}
use Rattle.showing.proofs.ShowLaws.{leaf_sheet, leaf-printed}

abbrev pub sample_input : List ℕ
sample_input = bytes "0006000400000000000000000000000000000000\n00\n50\n50\n00\n"

pub sample-parsed : parsed sample_input ≡ Some (page_of 6 4 0 0)
unfolding is_digit digit_value every number_at row_good head_good sides_good well_made parsed
sample-parsed = refl

pub sample-mask : mask_of sample_input ≡ sample_mask
unfolding is_digit digit_value every number_at row_good head_good sides_good well_made mask_of dots_in table
sample-mask = refl

sample-made : well_made sample_input ≡ true
unfolding is_digit digit_value every number_at row_good head_good sides_good well_made
sample-made = refl

zero_bits : of_bits binary64 0 ≡ float 0
unfolding computed
zero_bits = refl

abbrev sample : Leaf
sample = leaf_of sample_mask 6 4 (float 0) (float 0) show_sheet 64

sample-leaf : leaf_shown sample_input ≡ sample
unfolding number_at digit_value
sample-leaf t = leaf_of (sample-mask t) 6 4 (zero_bits t) (zero_bits t) show_sheet 64

sample-number : leaf_number sample ≡ 0
unfolding computed leaf_number leaf_refusal skew_ok slope_ok is_mask
sample-number = refl

sample-page : leaf_sheet sample ≡ page_sheet sample_leaf
unfolding page
sample-page = refl

-- exactly these bytes
pub sample-shown : shown sample_input ≡ sample_text
unfolding shown
sample-shown =
    ap (λ b. cond b (leaf_text (leaf_shown sample_input)) (refusal_text 0)) sample-made
    ∙ (ap leaf_text sample-leaf ∙ (sym (leaf-printed sample sample-number) ∙ (sample-page ∙ sample-text)))

-- nothing is no page
pub sample-malformed : shown [] ≡ bytes "FF00\n"
unfolding digit_of hex refusal_text head_good sides_good well_made shown
sample-malformed = refl

-- What the stages tells of thin rulings and of kinds. Assumes nothing.
use Rattle.std.specs.Prelude.{◌≡◌, Bool, true, false, cond, ◌&&◌, List, [], ◌∷◌, ℕ, ◌+◌, ◌*◌, max, eqb, ltb, leb, Float, length, drop}
use Rattle.memory.specs.rules.Limits.{max_mask_dots}
use Rattle.memory.specs.rules.Lists.{table}
use Rattle.memory.specs.rules.Refusals.{refuse_if}
use Rattle.memory.specs.rules.Masks.{is_ink, is_mask_side}
use Rattle.memory.specs.rules.Words.{over}
use Rattle.params.specs.rules.Valid.{float_zero}
use Rattle.params.specs.declared.LayoutParams.{LayoutParams}
use Rattle.rulings.specs.rules.Rulings.{cut_horizontal, cut_vertical}
use Rattle.sorting.specs.rules.Capacity.{components_of, most_cuts}
use Rattle.sorting.specs.declared.Unit.{Unit}
use Rattle.sorting.specs.declared.Unit.TheVariants.{Measured, Assumed}
use Rattle.stages.specs.rules.Frames.{frame_refusal, room_refusal, Told, told_by}
use Rattle.params.specs.rules.Sheets.{sheet_of}

-- a mask within its limits and of its length, a word a dot for the marks, a least run of 2, and two words a place of the longest line before them
unfoldable pub rulings_fit : ℕ → ℕ → ℕ → ℕ → ℕ → ℕ → Bool
rulings_fit mask w h run_min marks counters =
    is_mask_side w
    && is_mask_side h
    && leb (w * h) max_mask_dots
    && eqb mask (w * h)
    && leb (w * h) marks
    && leb 2 run_min
    && leb (w + w) counters
    && leb (h + h) counters

-- the mark of dot i: 1 in the horizontal cut mask, 2 in the vertical one, 3 in both
unfoldable pub mark_of : ℕ → ℕ → ℕ → ℕ → List ℕ → ℕ → ℕ
mark_of run_min thick_max w h m i =
    cond (is_ink (cut_horizontal run_min thick_max w h m) i) 1 0 + cond (is_ink (cut_vertical run_min thick_max w h m) i) 2 0

-- the answer; the marks of both cut masks from word `marks` on, or all as it was
pub record RulingsTold (done : Bool) (run_min thick_max w h marks : ℕ) (m words : List ℕ) (r : Bool) (words' : List ℕ) : Type 0 where
  pub answer : r ≡ done
  pub marked : drop marks words' ≡ cond done (over (table (mark_of run_min thick_max w h m) (w * h)) (drop marks words)) (drop marks words)
  pub kept : done ≡ false → words' ≡ words

-- the number that the call with these sides and lengths is refused with, the lowest that applies: 9 for counts under two words too
abbrev pub cut_refusal : ℕ → ℕ → ℕ → ℕ → ℕ → ℕ → ℕ → ℕ
cut_refusal w h ink P words counts rest = frame_refusal w h ink (room_refusal (w * h) P words (refuse_if (ltb counts 2) 9 rest))

-- 20 where one of the cut masks has more than P components
abbrev pub cuts_many : ℕ → ℕ → ℕ → ℕ → List ℕ → ℕ → ℕ
cuts_many run_min thick_max w h m P = refuse_if (ltb P (most_cuts run_min thick_max w h m)) 20 0

-- how many components the horizontal cut mask has, and the vertical one
abbrev pub cut_counts : ℕ → ℕ → ℕ → ℕ → List ℕ → List ℕ
cut_counts run_min thick_max w h m =
    length (components_of w h (cut_horizontal run_min thick_max w h m)) ∷ length (components_of w h (cut_vertical run_min thick_max w h m)) ∷ []

-- what `novlizeb_cut_rulings` leaves; a least run below 2 counts as 2
abbrev pub cut_rulings : ℕ → ℕ → ℕ → ℕ → List ℕ → ℕ → List ℕ → List ℕ → Told
cut_rulings run_min thick_max w h m P words counts =
    told_by (cut_refusal w h (length m) P (length words) (length counts) (cuts_many (max 2 run_min) thick_max w h m P)) (cut_counts (max 2 run_min) thick_max w h m) (w * h) P words counts

-- a unit, measured or assumed
abbrev pub unit_for : Bool → Float → Unit
unit_for true v = Measured v
unit_for false v = Assumed v

-- a sheet of what the limits of thin rulings and the kinds read, all else 0
abbrev pub size_sheet : ℕ → Float → Float → Float → Float → Float → LayoutParams
size_sheet glyph_min_area glyph_max_extent_frac rule_min_len_xh rule_max_thick_xh rule_run_xh graphic_min_xh =
    sheet_of glyph_min_area glyph_max_extent_frac 0 float_zero rule_min_len_xh rule_max_thick_xh rule_run_xh graphic_min_xh float_zero 0 float_zero float_zero float_zero float_zero float_zero float_zero float_zero float_zero

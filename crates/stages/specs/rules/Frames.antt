-- What the calls on a frame judge alike, in document 01's order ("Turned back"), and what those leave that tell a few figures. Assumes nothing.
use Rattle.std.specs.Prelude.{cond, not, List, ℕ, ◌*◌, eqb, ltb, length, drop}
use Rattle.memory.specs.rules.Limits.{max_frame_width, max_frame_height, max_capacity, scratch_words}
use Rattle.memory.specs.rules.Refusals.{refuse_if}
use Rattle.memory.specs.rules.Words.{over}

-- 1: a side outside its limit; 2: ink length
unfoldable pub frame_refusal : ℕ → ℕ → ℕ → ℕ → ℕ
frame_refusal w h ink rest =
    refuse_if (eqb w 0) 1 (refuse_if (ltb max_frame_width w) 1 (refuse_if (eqb h 0) 1 (refuse_if (ltb max_frame_height h) 1 (refuse_if (not (eqb ink (w * h))) 2 rest))))

-- 7: capacity; 9: scratch too short
unfoldable pub room_refusal : ℕ → ℕ → ℕ → ℕ → ℕ
room_refusal dots P words rest = refuse_if (eqb P 0) 7 (refuse_if (ltb max_capacity P) 7 (refuse_if (ltb words (scratch_words dots P)) 9 rest))

-- the number, the figures, the length of the words, and what lies in them past those needed
pub record Told : Type 0 where
  pub number : ℕ
  pub figures : List ℕ
  pub words : ℕ
  pub beyond : List ℕ

-- what a call that answers r leaves
abbrev pub told : ℕ → List ℕ → ℕ → List ℕ → Told
told r figures words beyond = record { number = r; figures = figures; words = words; beyond = beyond }

-- with the number 0 the values are over the front of the figures; with another the figures are as they were
abbrev pub told_by : ℕ → List ℕ → ℕ → ℕ → List ℕ → List ℕ → Told
told_by n values dots P words figures = told n (cond (eqb n 0) (over values figures) figures) (length words) (drop (scratch_words dots P) words)

-- What each call answers and leaves, as equations over all that it is lent; a refused one leaves all as it was (01, "Proof and trial").
use Rattle.std.specs.Prelude.{cond, ◌||◌, List, [], ℕ, eqb, length}
use Rattle.memory.specs.rules.Words.{word_at, over}
use Rattle.params.specs.declared.LayoutParams.{LayoutParams}
use Rattle.segmenting.specs.rules.Layouts.{Layout, layout, layout_refusal}
use Rattle.judging.specs.rules.Header.{Held, held, frame_held, dots_held}
use Rattle.judging.specs.rules.Leaves.{Leaf, levelling_of}
use Rattle.store.specs.rules.Written.{store_levelled, store_segmented, store_cleared}
use Rattle.judging.specs.rules.Views.{view_of}
use Rattle.judging.specs.rules.Spoiled.{frame_spoiled, ink_spoiled, ink_held, results_spoiled}
use Rattle.judging.specs.rules.Refusals.{level_refusal, segment_refusal, result_refusal, level_reading_refusal, clear_refusal}
use Rattle.store.specs.rules.Readings.{Output, LevelReading, lacking_level, bad_level, fill_level, lent_level, ResultReading, lacking_result, bad_result, short_result, value_result, fill_result, lent_result}

-- a number, the store and a plane
pub record Left : Type 0 where
  pub number : ℕ
  pub store : List ℕ
  pub plane : List ℕ

abbrev pub left : ℕ → List ℕ → List ℕ → Left
left n s p = record { number = n; store = s; plane = p }

-- with the number 0 the second store and plane, with another the first: as they were
unfoldable pub settled : ℕ → List ℕ → List ℕ → List ℕ → List ℕ → Left
settled n s p s' p' = left n (cond (eqb n 0) s' s) (cond (eqb n 0) p' p)

-- levelling: the store, and the ink plane with the levelled mask over its front
unfoldable pub level_left : Leaf → List ℕ → List ℕ → Left
level_left a s ink = settled (level_refusal a (length s) (length ink) (word_at s 0)) s ink (store_levelled a s) (over (levelling_of a).ink ink)

-- the layout by a sheet of the ink of the frame that a store tells
abbrev pub layout_held : LayoutParams → Held → List ℕ → Layout
layout_held sheet g ink = layout sheet (frame_held g).w (frame_held g).h (ink_held g ink)

-- segmenting: the store, and the plane of kinds with those of the layout over its front; `scratch` is the words of scratch
unfoldable pub segment_left : LayoutParams → List ℕ → List ℕ → List ℕ → ℕ → Left
segment_left sheet s ink kinds scratch =
    let g = held s in
    let l = layout_held sheet g ink in
    settled
    (segment_refusal sheet (length s) (length ink) (length kinds) scratch g (frame_spoiled s || ink_spoiled (dots_held g) ink) (layout_refusal g.capacity l))
    s kinds (store_segmented g.page_w (frame_held g).w (frame_held g).h g.capacity l s) (over l.plane kinds)

-- clearing: the store
unfoldable pub clear_left : List ℕ → Left
clear_left s = settled (clear_refusal (length s)) s [] (store_cleared s) []

-- a number, a value and what is filled
pub record Told : Type 0 where
  pub number : ℕ
  pub value : ℕ
  pub output : Output

abbrev pub told : ℕ → ℕ → Output → Told
told n value output = record { number = n; value = value; output = output }

-- with the number 0 the value and the answer, with another 0 and what is lent as it was
unfoldable pub told_by : ℕ → ℕ → Output → Output → Told
told_by n value answer lent = told n (cond (eqb n 0) value 0) (cond (eqb n 0) answer lent)

-- mapping, `level_gray`, the frame's figures
unfoldable pub level_told : LevelReading → List ℕ → Told
level_told q s =
    let g = held s in
    told_by (level_reading_refusal (length s) g (lacking_level q g) (frame_spoiled s) (bad_level q g)) 0 (fill_level q g) (lent_level q)

-- readings of results
unfoldable pub result_told : ResultReading → List ℕ → List ℕ → List ℕ → Told
result_told q s ink kinds =
    let g = held s in
    let v = view_of s kinds in
    told_by
    (result_refusal (length s) (length ink) (length kinds) g (lacking_result q) (results_spoiled s ink kinds) (bad_result q v.frame) (short_result q v))
    (value_result q v) (fill_result q v) (lent_result q)

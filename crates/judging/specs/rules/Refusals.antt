-- The number that each call on a store is refused with, 0 where it is accepted (01, "Turned back"). Each takes plain values: what is handed,
-- lengths, what the header says, and whether what the header does not say is spoiled, so that the ink account can use it too.
use Rattle.std.specs.Prelude.{Bool, not, ◌||◌, ℕ, ◌*◌, eqb, ltb, length}
use Rattle.memory.specs.rules.Limits.{store_words}
use Rattle.memory.specs.rules.Refusals.{refuse_if}
use Rattle.params.specs.rules.Valid.{valid}
use Rattle.params.specs.declared.LayoutParams.{LayoutParams}
use Rattle.memory.specs.rules.Masks.{is_mask}
use Rattle.judging.specs.rules.Header.{scratch_held, empty_state, segmented_state, header_words, Held, dots_held, store_held}
use Rattle.judging.specs.rules.Spoiled.{side_ok, capacity_ok, skew_ok, slope_ok, state_spoiled, limits_ok}
use Rattle.judging.specs.rules.Leaves.{Leaf, levelling_of}

-- what levelling is handed: 1 to 7, the lowest that applies
unfoldable pub leaf_refusal : Leaf → ℕ → ℕ
leaf_refusal a rest =
    refuse_if (not (side_ok a.w) || not (side_ok a.h)) 1
    (refuse_if (not (eqb (length a.mask) (a.w * a.h))) 2
    (refuse_if (not (is_mask a.mask)) 3
    (refuse_if (not (skew_ok a.skew)) 4
    (refuse_if (not (slope_ok a.slope)) 5
    (refuse_if (not (valid a.sheet)) 6
    (refuse_if (not (capacity_ok a.capacity)) 7 rest))))))

-- 9 where so many words and bytes are lent and these are asked; 16 and 17 by the state word alone
unfoldable pub place_refusal : ℕ → ℕ → ℕ → ℕ → ℕ → ℕ
place_refusal words dots store ink state =
    refuse_if (ltb store words) 9
    (refuse_if (ltb ink dots) 9
    (refuse_if (ltb segmented_state state) 16
    (refuse_if (not (eqb state empty_state)) 17 0)))

-- levelling, lent so many words and bytes, by the state word
unfoldable pub level_refusal : Leaf → ℕ → ℕ → ℕ → ℕ
level_refusal a store ink state =
    let f = (levelling_of a).frame in
    leaf_refusal a (place_refusal (store_words a.w f.w f.h a.capacity) (f.w * f.h) store ink state)

-- the other calls on a store, by its header: 9 for a store under 64 words; 16 for its state word; 18 or 19; 16 for sizes, P, skew and slope ..
unfoldable pub head_refusal : ℕ → Held → Bool → ℕ → ℕ → ℕ
head_refusal store g early k rest =
    refuse_if (ltb store header_words) 9
    (refuse_if (state_spoiled g) 16
    (refuse_if early k
    (refuse_if (not (limits_ok g)) 16 rest)))

-- .. then 9 for the store, by the frame that the held slope gives
unfoldable pub held_refusal : ℕ → Held → Bool → ℕ → ℕ → ℕ
held_refusal store g early k rest = head_refusal store g early k (refuse_if (ltb store (store_held g)) 9 rest)

-- segmenting, lent so many words, bytes, bytes and words of scratch: 6 first; then 9 for the other lengths; 16 for the rest; 20; 21
unfoldable pub segment_refusal : LayoutParams → ℕ → ℕ → ℕ → ℕ → Held → Bool → ℕ → ℕ
segment_refusal sheet store ink kinds scratch g spoiled pieces =
    refuse_if (not (valid sheet)) 6
    (held_refusal store g (eqb g.state empty_state) 18
    (refuse_if (ltb ink (dots_held g)) 9
    (refuse_if (ltb kinds (dots_held g)) 9
    (refuse_if (ltb scratch (scratch_held g)) 9
    (refuse_if spoiled 16 pieces)))))

-- readings of results: `lacking` an output of fixed length too short; `bad` a kind or a box; `short` an output shorter than what is held
unfoldable pub result_refusal : ℕ → ℕ → ℕ → Held → Bool → Bool → Bool → Bool → ℕ
result_refusal store ink kinds g lacking spoiled bad short =
    held_refusal store g (not (eqb g.state segmented_state)) 19
    (refuse_if (ltb ink (dots_held g)) 9
    (refuse_if (ltb kinds (dots_held g)) 9
    (refuse_if lacking 9
    (refuse_if spoiled 16
    (refuse_if bad 8
    (refuse_if short 9 0))))))

-- mapping and `level_gray`: `lacking` an output too short or a gray plane not of page size; `bad` a point or a box
unfoldable pub level_reading_refusal : ℕ → Held → Bool → Bool → Bool → ℕ
level_reading_refusal store g lacking spoiled bad =
    held_refusal store g (eqb g.state empty_state) 18
    (refuse_if lacking 9
    (refuse_if spoiled 16
    (refuse_if bad 8 0)))

-- clearing knows only 9
unfoldable pub clear_refusal : ℕ → ℕ
clear_refusal store = refuse_if (ltb store 1) 9 0

-- The chains of refusals of a page to 16 × 16 in memory that is long enough: of levelling only what it is handed is left, of segmenting only
-- the pieces and lines, of reading the sheet only the bytes lent for it.
use mathlib.Core.Path.{◌≡◌, refl, sym, ap, ◌∙◌}
use mathlib.Core.Bool.{Bool, false, not, ◌||◌}
use Prim.Native.Nat.{ℕ, ◌*◌, ◌≤◌}
use native.Mathlib.Nat.{le_refl}
use native.Mathlib.Decide.{ℕ_discrete}
use native.Mathlib.Omega.{arith}
use borrow.Author.Tests.{le-ltb}
use lib.Dec.{T, eqb}
use lib.Ieee.{fits, binary64}
use lib.ListN.{length}
use Rattle.memory.specs.rules.Limits.{store_words, scratch_words}
use Rattle.memory.specs.rules.Masks.{is_mask}
use Rattle.memory.specs.rules.Refusals.{refuse_if}
use Rattle.memory.proofs.RefusalLaws.{Passes, passes_none, passes-if}
use Rattle.params.specs.rules.Valid.{valid}
use Rattle.levelling.specs.rules.Frames.{Frame}
use Rattle.judging.specs.rules.Header.{store_held, dots_held}
use Rattle.judging.specs.rules.Leaves.{Leaf, leaf_held}
use Rattle.judging.specs.rules.Spoiled.{side_ok, capacity_ok, skew_ok, slope_ok}
use Rattle.judging.specs.rules.Refusals.{leaf_refusal, place_refusal, level_refusal, segment_refusal, result_refusal, held_refusal, head_refusal}
use Rattle.judging.proofs.SegmentLaws.{segment-passes}
use Rattle.store.proofs.HeaderLaws.{Accepted, frame-of, limits-pass}
use Rattle.store.proofs.StoreLaws.{leaf_store}
use Rattle.store.proofs.InkLaws.{leaf_dots}
use Rattle.store.proofs.ChainLaws.{level-passed, refuse-none, segment-none}
use Rattle.showing.specs.stages.Rooms.{shown_dots, shown_store, shown_scratch}
use Rattle.showing.proofs.RoomLaws.{SmallRoom, small-room}

-- what levelling is handed: a chain before others
pub leaf-passes : (a : Leaf) → Passes (leaf_refusal a)
unfolding leaf_refusal
leaf-passes a =
    passes-if (not (side_ok a.w) || not (side_ok a.h)) 0
    (passes-if (not (eqb (length a.mask) (a.w * a.h))) 1
    (passes-if (not (is_mask a.mask)) 2
    (passes-if (not (skew_ok a.skew)) 3
    (passes-if (not (slope_ok a.slope)) 4
    (passes-if (not (valid a.sheet)) 5
    (passes-if (not (capacity_ok a.capacity)) 6 passes_none))))))

-- memory that is long enough, and an empty store
place_none : (words dots store ink : ℕ) → words ≤ store → dots ≤ ink → place_refusal words dots store ink 0 ≡ 0
unfolding place_refusal
place_none words dots store ink w d =
    refuse-none _ 9 _ (le-ltb store words w) (refuse-none _ 9 _ (le-ltb ink dots d) (refuse-none _ 16 _ refl (refuse-none _ 17 _ refl refl)))

module _ (a : Leaf) (F : T (fits binary64 a.skew) × T (fits binary64 a.slope)) where
  -- what it is handed passes: it is accepted wherever memory is long enough
  pub leaf-accepted : leaf_refusal a 0 ≡ 0 → Accepted a
  unfolding level_refusal
  leaf-accepted e =
      (level-passed a (leaf_store a) (leaf_dots a) 0 F
      ((leaf-passes a).pass e _ ∙ place_none (leaf_store a) (leaf_dots a) (leaf_store a) (leaf_dots a) (le_refl (leaf_store a)) (le_refl (leaf_dots a)))
      ).accepted

  module _ (narrow : a.w ≤ 16) (low : a.h ≤ 16) (c : a.capacity ≡ 64) where
    -- levelling: what it is handed, and nothing else
    pub level-number : (store ink : ℕ) → shown_store ≤ store → shown_dots ≤ ink → level_refusal a store ink 0 ≡ leaf_refusal a 0
    unfolding level_refusal
    level-number store ink s i = go (ℕ_discrete (leaf_refusal a 0) 0)
      where
        go : Dec (leaf_refusal a 0 ≡ 0) → leaf_refusal a (place_refusal (leaf_store a) (leaf_dots a) store ink 0) ≡ leaf_refusal a 0
        go (yes e) =
            let R = small-room a (leaf-accepted e) narrow low c in
            let x = R.words in
            let y = R.dots in
            (leaf-passes a).pass e _ ∙ (place_none (leaf_store a) (leaf_dots a) store ink (omega arith) (omega arith) ∙ sym e)
        go (no n) = (leaf-passes a).stop n _

    module _ (A : Accepted a) (store ink kinds : ℕ) (s : shown_store ≤ store) (i : shown_dots ≤ ink) (k : shown_dots ≤ kinds) where
      room : SmallRoom a
      room = small-room a A narrow low c

      store-asked : (st : ℕ) → store_held (leaf_held st a) ≤ store
      store-asked st =
          let e = ap (λ (f : Frame). store_words a.w f.w f.h a.capacity) (frame-of a st) in
          let r = room.words in
          omega arith

      dots-asked : (st n : ℕ) → shown_dots ≤ n → dots_held (leaf_held st a) ≤ n
      dots-asked st n h =
          let e = ap (λ (f : Frame). f.w * f.h) (frame-of a st) in
          let r = room.dots in
          omega arith

      -- segmenting: the pieces and the lines, and nothing else
      pub segment-number : (x n : ℕ) → shown_scratch ≤ x → segment_refusal a.sheet store ink kinds x (leaf_held 1 a) false n ≡ n
      segment-number x n h =
          (segment-passes a.sheet store ink kinds x (leaf_held 1 a) false).pass
          (segment-none a.sheet store ink kinds x (leaf_held 1 a) A.sheet-valid (omega arith) (omega arith) refl (limits-pass a A 1) (store-asked 1) (dots-asked 1 ink i) (dots-asked 1 kinds k) scratch-asked 0 refl) n
        where
          scratch-asked : scratch_words (dots_held (leaf_held 1 a)) a.capacity ≤ x
          scratch-asked =
              let e = ap (λ (f : Frame). scratch_words (f.w * f.h) a.capacity) (frame-of a 1) in
              let r = room.scratch in
              omega arith

      -- reading the sheet: the bytes lent for it, and nothing else
      pub reading-number : (short : Bool) → result_refusal store ink kinds (leaf_held 2 a) false false false short ≡ refuse_if short 9 0
      unfolding result_refusal held_refusal head_refusal refuse_if
      reading-number short =
          rw (le-ltb store 64 (omega arith), limits-pass a A 2, le-ltb store (store_held (leaf_held 2 a)) (store-asked 2), le-ltb ink (dots_held (leaf_held 2 a)) (dots-asked 2 ink i), le-ltb kinds (dots_held (leaf_held 2 a)) (dots-asked 2 kinds k))

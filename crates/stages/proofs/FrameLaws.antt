-- What the calls on a frame judge alike: which number a chain gives, and what a passed one says. Assumes nothing.
use mathlib.Core.Path.{◌≡◌, refl, sym, ap, ◌∙◌}
use mathlib.Core.List.{List, ◌++◌}
use mathlib.Core.Bool.{not}
use Prim.Native.Nat.{ℕ, ◌*◌, ◌≤◌, ◌<◌}
use native.Mathlib.Nat.{le_trans, mul-le-mul_left, mul-le-mul_right}
use native.Mathlib.Omega.{arith}
use borrow.Author.Tests.{ltb-false, eqb-true, eqb-false, not-false, ne_eqb}
use lib.Dec.{eqb, ltb}
use lib.ListN.{length, take, drop, length-append, length-drop}
use lib.Seq.{drop_at, length-take-le}
use Rattle.memory.specs.rules.Limits.{max_frame_width, max_frame_height, max_capacity, scratch_words}
use Rattle.memory.specs.rules.Words.{over}
use Rattle.memory.proofs.RefusalLaws.{refusal-passed, Passes, passes-if}
use Rattle.stages.specs.rules.Frames.{frame_refusal, room_refusal, told, told_by}

-- A chain of tests before others

pub frame-pass : (w h ink : ℕ) {F : ℕ → ℕ} → Passes F → Passes (λ x. frame_refusal w h ink (F x))
unfolding frame_refusal
frame-pass w h ink p =
    passes-if (eqb w 0) 0 (passes-if (ltb max_frame_width w) 0 (passes-if (eqb h 0) 0 (passes-if (ltb max_frame_height h) 0 (passes-if (not (eqb ink (w * h))) 1 p))))

pub room-pass : (dots P words : ℕ) {F : ℕ → ℕ} → Passes F → Passes (λ x. room_refusal dots P words (F x))
unfolding room_refusal
room-pass dots P words p = passes-if (eqb P 0) 6 (passes-if (ltb max_capacity P) 6 (passes-if (ltb words (scratch_words dots P)) 8 p))

-- What a passed chain says

pub record FrameGood (w h ink rest : ℕ) : Type 0 where
  pub wide : 0 < w
  pub narrow : w ≤ max_frame_width
  pub high : 0 < h
  pub low : h ≤ max_frame_height
  pub dots : w * h ≤ max_frame_width * max_frame_height
  pub whole : ink ≡ w * h
  pub later : rest ≡ 0

pub frame-good : (w h ink rest : ℕ) → frame_refusal w h ink rest ≡ 0 → FrameGood w h ink rest
unfolding frame_refusal
frame-good w h ink rest e =
    let p₁ = refusal-passed (eqb w 0) 0 _ e in
    let p₂ = refusal-passed (ltb max_frame_width w) 0 _ p₁.later in
    let p₃ = refusal-passed (eqb h 0) 0 _ p₂.later in
    let p₄ = refusal-passed (ltb max_frame_height h) 0 _ p₃.later in
    let p₅ = refusal-passed (not (eqb ink (w * h))) 1 _ p₄.later in
    let a = eqb-false w 0 p₁.passed in
    let b = eqb-false h 0 p₃.passed in
    let narrow = ltb-false max_frame_width w p₂.passed in
    let low = ltb-false max_frame_height h p₄.passed in
    record {
      wide = omega arith;
      narrow = narrow;
      high = omega arith;
      low = low;
      dots = le_trans (mul-le-mul_right h narrow) (mul-le-mul_left max_frame_width low);
      whole = eqb-true ink (w * h) (not-false (eqb ink (w * h)) p₅.passed);
      later = p₅.later;
    }

pub record RoomGood (dots P words rest : ℕ) : Type 0 where
  pub few : P ≤ max_capacity
  pub words_room : scratch_words dots P ≤ words
  pub later : rest ≡ 0

pub room-good : (dots P words rest : ℕ) → room_refusal dots P words rest ≡ 0 → RoomGood dots P words rest
unfolding room_refusal
room-good dots P words rest e =
    let p₁ = refusal-passed (eqb P 0) 6 _ e in
    let p₂ = refusal-passed (ltb max_capacity P) 6 _ p₁.later in
    let p₃ = refusal-passed (ltb words (scratch_words dots P)) 8 _ p₂.later in
    record { few = ltb-false max_capacity P p₂.passed; words_room = ltb-false words (scratch_words dots P) p₃.passed; later = p₃.later }

-- What a call leaves that works in the front of the words and tells a few figures

module _ (dots P : ℕ) (values words figures : List ℕ) where
  pub told-refused : (n k : ℕ) → k ≡ n → (n ≡ 0 → ⊥) → told n figures (length words) (drop (scratch_words dots P) words) ≡ told_by k values dots P words figures
  told-refused n k e ne = rw (e, ne_eqb n 0 ne) refl

  module _ (part : List ℕ) (room : scratch_words dots P ≤ length words) (ep : length part ≡ length (take (scratch_words dots P) words)) where
    abbrev behind : List ℕ
    behind = part ++ drop (scratch_words dots P) words

    told_part : (n : ℕ) (figures' : List ℕ) → told n figures' (length behind) (drop (scratch_words dots P) behind) ≡ told n figures' (length words) (drop (scratch_words dots P) words)
    told_part n figures' =
        let need = scratch_words dots P in
        let l : length part ≡ need = ep ∙ length-take-le need words room in
        let f : length behind ≡ length words = length-append part (drop need words) ∙ (let q = length-drop need words in omega arith) in
        let d : drop need behind ≡ drop need words = drop_at part (drop need words) need l in
        λ i. told n figures' (f i) (d i)

    pub told-many : (n k : ℕ) → k ≡ n → (n ≡ 0 → ⊥) → told n figures (length behind) (drop (scratch_words dots P) behind) ≡ told_by k values dots P words figures
    told-many n k e ne = told_part n figures ∙ told-refused n k e ne

    pub told-done : (k : ℕ) → k ≡ 0 → (figures' : List ℕ) → figures' ≡ over values figures
        → told 0 figures' (length behind) (drop (scratch_words dots P) behind) ≡ told_by k values dots P words figures
    told-done k e figures' c =
        told_part 0 figures'
        ∙ (ap (λ (z : List ℕ). told 0 z (length words) (drop (scratch_words dots P) words)) c ∙ ap (λ z. told_by z values dots P words figures) (sym e))

-- Readings that need only a levelled page: what is judged, and what an accepted one has passed.
use mathlib.Core.Path.{◌≡◌, refl, sym, ap, ◌∙◌}
use mathlib.Core.Bool.{Bool, true, false, not}
use mathlib.Core.List.{List}
use Prim.Native.Nat.{ℕ, ◌+◌, ◌≤◌, ◌<◌}
use native.Mathlib.Omega.{arith}
use borrow.Author.Tests.{lt-ltb, le-ltb, ltb-false, not-false}
use lib.Dec.{eqb, ltb}
use lib.Ieee.{Float}
use lib.ListN.{length, get_or}
use Rattle.memory.specs.rules.Floats.{float_at}
use Rattle.memory.specs.rules.Limits.{store_words}
use Rattle.memory.specs.rules.Refusals.{refuse_if}
use Rattle.memory.specs.rules.Words.{word_at}
use Rattle.memory.proofs.RefusalLaws.{refusal-passed}
use Rattle.levelling.specs.rules.Frames.{frame}
use Rattle.judging.specs.rules.Header.{held, frame_held, store_held}
use Rattle.judging.specs.rules.Spoiled.{limits_ok, state_spoiled, frame_spoiled}
use Rattle.judging.specs.rules.Refusals.{head_refusal, held_refusal, level_reading_refusal}
use Rattle.judging.specs.stages.Judged.{frame_judged, level_judged}
use Rattle.judging.proofs.SegmentLaws.{head-passes, no-refusal}

-- ---- the header

pub state-held : (s : List ℕ) (st n : ℕ) → st ≡ word_at s 0 → n ≡ head_refusal (length s) (held s) (eqb st 0) 18 0 → n ≡ head_refusal (length s) (held s) (eqb (held s).state 0) 18 0
unfolding held
state-held s st n e f = f ∙ ap (λ z. head_refusal (length s) (held s) (eqb z 0) 18 0) e

chain : (s : List ℕ) (lacking bad : Bool) → level_judged s lacking bad ≡ head_refusal (length s) (held s) (eqb (held s).state 0) 18 (frame_judged s lacking bad)
unfolding level_judged level_reading_refusal held_refusal
chain s lacking bad = refl

module _ (s : List ℕ) (head : ℕ) (e : head ≡ head_refusal (length s) (held s) (eqb (held s).state 0) 18 0) where
  pub level-stopped : (lacking bad : Bool) → (head ≡ 0 → ⊥) → head ≡ level_judged s lacking bad
  level-stopped lacking bad z =
      e ∙ (sym ((head-passes (length s) (held s) (eqb (held s).state 0) 17).stop (λ q. z (e ∙ q)) (frame_judged s lacking bad)) ∙ sym (chain s lacking bad))

  pub header-passed : head ≡ 0 → (64 ≤ length s) × (limits_ok (held s) ≡ true)
  unfolding head_refusal
  header-passed z =
      let t₁ = refusal-passed (ltb (length s) 64) 8 _ (sym e ∙ z) in
      let t₂ = refusal-passed (state_spoiled (held s)) 15 _ t₁.later in
      let t₃ = refusal-passed (eqb (held s).state 0) 17 _ t₂.later in
      let t₄ = refusal-passed (not (limits_ok (held s))) 15 _ t₃.later in
      (ltb-false _ _ t₁.passed, not-false _ t₄.passed)

  pub level-judged : (lacking bad : Bool) → head ≡ 0 → (n : ℕ) → n ≡ frame_judged s lacking bad → n ≡ level_judged s lacking bad
  level-judged lacking bad z n f =
      f ∙ (sym ((head-passes (length s) (held s) (eqb (held s).state 0) 17).pass (sym e ∙ z) (frame_judged s lacking bad)) ∙ sym (chain s lacking bad))

-- ---- the frame

pub frame-by-words : (s : List ℕ) (t : Float) → t ≡ float_at s 8 → frame (get_or s 1 0) (get_or s 2 0) t ≡ frame_held (held s)
unfolding held
frame-by-words s t e = ap (frame (get_or s 1 0) (get_or s 2 0)) e

module _ (s : List ℕ) (w h : ℕ) (ew : w ≡ (frame_held (held s)).w) (eh : h ≡ (frame_held (held s)).h) (n : ℕ) (en : n ≡ store_words (get_or s 1 0) w h (get_or s 5 0)) where
  words-by : n ≡ store_held (held s)
  unfolding held
  words-by = en ∙ (λ i. store_words (get_or s 1 0) (ew i) (eh i) (get_or s 5 0))

  pub frame-short : (lacking bad : Bool) → length s < n → 9 ≡ frame_judged s lacking bad
  unfolding refuse_if
  frame-short lacking bad l = sym (rw (lt-ltb (length s) (store_held (held s)) (let e = words-by in omega arith)))

  pub frame-room : n ≤ length s → 64 + (get_or s 1 0 + h) ≤ length s
  frame-room l = omega arith

  pub frame-judged : (lacking bad : Bool) (r : ℕ) → n ≤ length s → r ≡ refuse_if lacking 9 (refuse_if (frame_spoiled s) 16 (refuse_if bad 8 0)) → r ≡ frame_judged s lacking bad
  frame-judged lacking bad r l e = e ∙ sym (no-refusal _ 9 _ (le-ltb (length s) (store_held (held s)) (let e = words-by in omega arith)))

-- ---- an accepted reading

pub record Readable (s : List ℕ) (lacking bad : Bool) : Type 0 where
  pub words : 64 ≤ length s
  pub limits : limits_ok (held s) ≡ true
  pub room : store_held (held s) ≤ length s
  pub enough : lacking ≡ false
  pub sound : frame_spoiled s ≡ false
  pub good : bad ≡ false

pub readable : (s : List ℕ) (lacking bad : Bool) → level_judged s lacking bad ≡ 0 → Readable s lacking bad
unfolding head_refusal
readable s lacking bad e =
    let t₁ = refusal-passed (ltb (length s) 64) 8 _ (sym (chain s lacking bad) ∙ e) in
    let t₂ = refusal-passed (state_spoiled (held s)) 15 _ t₁.later in
    let t₃ = refusal-passed (eqb (held s).state 0) 17 _ t₂.later in
    let t₄ = refusal-passed (not (limits_ok (held s))) 15 _ t₃.later in
    let t₅ = refusal-passed (ltb (length s) (store_held (held s))) 8 _ t₄.later in
    let t₆ = refusal-passed lacking 8 _ t₅.later in
    let t₇ = refusal-passed (frame_spoiled s) 15 _ t₆.later in
    let t₈ = refusal-passed bad 7 _ t₇.later in
    record {
      words = ltb-false _ _ t₁.passed;
      limits = not-false _ t₄.passed;
      room = ltb-false _ _ t₅.passed;
      enough = t₆.passed;
      sound = t₇.passed;
      good = t₈.passed;
    }

-- Segmenting: what is judged before the page itself, and what an accepted call has passed.
use mathlib.Core.Path.{◌≡◌, refl, sym, ap, ◌∙◌, subst}
use mathlib.Core.Bool.{Bool, true, false, not, ◌||◌, true≢false}
use mathlib.Core.List.{List}
use Prim.Native.Nat.{ℕ, suc, ◌+◌, ◌*◌, ◌≤◌, ◌<◌}
use native.Mathlib.Nat.{le_trans, mul-le-mul_left, mul-le-mul_right}
use native.Mathlib.Omega.{arith}
use borrow.Author.Tests.{le-ltb, ltb-false, not-false}
use lib.Dec.{eqb, ltb}
use lib.Ieee.{Float}
use lib.ListN.{length, get_or}
use Rattle.memory.specs.rules.Floats.{float_at}
use Rattle.memory.specs.rules.Limits.{store_words, scratch_words, max_frame_width, max_frame_height}
use Rattle.memory.specs.rules.Refusals.{refuse_if}
use Rattle.memory.specs.rules.Words.{word_at}
use Rattle.memory.proofs.RefusalLaws.{refusal-passed, Passes, passes_none, passes-if}
use Rattle.rounding.proofs.Tests.{yes}
use Rattle.params.specs.rules.Facts.{ValidSheet}
use Rattle.params.specs.rules.Valid.{valid}
use Rattle.params.specs.declared.LayoutParams.{LayoutParams}
use Rattle.params.proofs.SheetLaws.{valid-gives}
use Rattle.levelling.specs.rules.Frames.{Frame, frame}
use Rattle.judging.specs.rules.Header.{Held, held, frame_held, dots_held, store_held, scratch_held}
use Rattle.judging.specs.rules.Spoiled.{limits_ok, state_spoiled, frame_spoiled, ink_spoiled}
use Rattle.judging.specs.rules.Refusals.{head_refusal, held_refusal, segment_refusal}
use Rattle.judging.specs.stages.Judged.{length_refusal, behind_refusal, segment_judged}
use Rattle.judging.proofs.LimitLaws.{point-short}

-- ---- the chains

length-passes : (dots P ink kinds scratch : ℕ) → Passes (length_refusal dots P ink kinds scratch)
length-passes dots P ink kinds scratch =
    passes-if (ltb ink dots) 8 (passes-if (ltb kinds dots) 8 (passes-if (ltb scratch (scratch_words dots P)) 8 passes_none))

pub segment-passes : (sheet : LayoutParams) (store ink kinds scratch : ℕ) (g : Held) (spoiled : Bool) → Passes (segment_refusal sheet store ink kinds scratch g spoiled)
unfolding segment_refusal held_refusal head_refusal
segment-passes sheet store ink kinds scratch g spoiled =
    passes-if (not (valid sheet)) 5
    (passes-if (ltb store 64) 8
    (passes-if (state_spoiled g) 15
    (passes-if (eqb g.state 0) 17
    (passes-if (not (limits_ok g)) 15
    (passes-if (ltb store (store_held g)) 8
    (passes-if (ltb ink (dots_held g)) 8
    (passes-if (ltb kinds (dots_held g)) 8
    (passes-if (ltb scratch (scratch_words (dots_held g) g.capacity)) 8
    (passes-if spoiled 15 passes_none)))))))))

pub head-passes : (ls : ℕ) (g : Held) (early : Bool) (k : ℕ) → Passes (head_refusal ls g early (suc k))
unfolding head_refusal
head-passes ls g early k = passes-if (ltb ls 64) 8 (passes-if (state_spoiled g) 15 (passes-if early k (passes-if (not (limits_ok g)) 15 passes_none)))

pub no-refusal : (b : Bool) (k x : ℕ) → b ≡ false → refuse_if b k x ≡ x
no-refusal b k x f = ap (λ t. refuse_if t k x) f ∙ (unfold refuse_if in refl)

-- ---- behind the header

module _ (s ink : List ℕ) (kinds scratch : ℕ) (ok : limits_ok (held s) ≡ true) (t : Float) (et : t ≡ float_at s 8)
    (w h : ℕ) (ew : w ≡ (frame (get_or s 1 0) (get_or s 2 0) t).w) (eh : h ≡ (frame (get_or s 1 0) (get_or s 2 0) t).h)
    (n : ℕ) (en : n ≡ store_words (get_or s 1 0) w h (get_or s 5 0)) where
  pub behind-short : length s < n → 9 ≡ behind_refusal s ink kinds scratch 0
  unfolding behind_refusal
  behind-short l = point-short s ok t et w h ew eh n en _ l

  frame-by : frame (get_or s 1 0) (get_or s 2 0) t ≡ frame_held (held s)
  unfolding held
  frame-by = ap (frame (get_or s 1 0) (get_or s 2 0)) et

  words-by : n ≡ store_held (held s)
  unfolding held
  words-by = en ∙ (λ i. store_words (get_or s 1 0) ((ew ∙ ap (λ (f : Frame). f.w) frame-by) i) ((eh ∙ ap (λ (f : Frame). f.h) frame-by) i) (get_or s 5 0))

  module _ (d : ℕ) (ed : d ≡ w * h) (l : n ≤ length s) where
    pub behind-dots : w ≤ max_frame_width → h ≤ max_frame_height → d ≤ max_frame_width * max_frame_height
    behind-dots a b = subst (λ z. z ≤ max_frame_width * max_frame_height) (sym ed) (le_trans (mul-le-mul_right h a) (mul-le-mul_left max_frame_width b))

    lengths-by : (x : ℕ) → length_refusal d (get_or s 5 0) (length ink) kinds scratch x ≡ length_refusal (dots_held (held s)) (held s).capacity (length ink) kinds scratch x
    unfolding held
    lengths-by x =
        ap (λ z. length_refusal z (get_or s 5 0) (length ink) kinds scratch x)
        (ed ∙ (λ i. (ew ∙ ap (λ (f : Frame). f.w) frame-by) i * (eh ∙ ap (λ (f : Frame). f.h) frame-by) i))

    later : (x : ℕ) → x ≡ refuse_if (ltb (length s) (store_held (held s))) 9 x
    later x = sym (no-refusal _ 9 x (le-ltb (length s) (store_held (held s)) (let e = words-by in omega arith)))

    module _ (lent : ℕ) (el : lent ≡ length_refusal d (get_or s 5 0) (length ink) kinds scratch 0) where
      pub behind-lent : (lent ≡ 0 → ⊥) → lent ≡ behind_refusal s ink kinds scratch 0
      unfolding behind_refusal
      behind-lent z =
          el
          ∙ (sym ((length-passes d (get_or s 5 0) (length ink) kinds scratch).stop (λ q. z (el ∙ q)) (refuse_if (frame_spoiled s || ink_spoiled (dots_held (held s)) ink) 16 0))
          ∙ (lengths-by (refuse_if (frame_spoiled s || ink_spoiled (dots_held (held s)) ink) 16 0)
          ∙ later _))

      pub behind-ink : lent ≡ 0 → d ≤ length ink
      behind-ink z = ltb-false _ _ (refusal-passed (ltb (length ink) d) 8 _ (sym el ∙ z)).passed

      pub behind-room : 64 + (get_or s 1 0 + h) ≤ length s
      behind-room = omega arith

      pub behind-judged : lent ≡ 0 → (r : ℕ) (a b : Bool) → r ≡ refuse_if (a || b) 16 0 → a ≡ frame_spoiled s → b ≡ ink_spoiled d ink → r ≡ behind_refusal s ink kinds scratch 0
      unfolding behind_refusal
      behind-judged z r a b e f g =
          let x = refuse_if (frame_spoiled s || ink_spoiled (dots_held (held s)) ink) 16 0 in
          e
          ∙ ((λ i. refuse_if (f i || (g ∙ ap (λ k. ink_spoiled k ink) (ed ∙ (λ j. (ew ∙ ap (λ (f : Frame). f.w) frame-by) j * (eh ∙ ap (λ (f : Frame). f.h) frame-by) j))) i) 16 0)
          ∙ (sym ((length-passes d (get_or s 5 0) (length ink) kinds scratch).pass (sym el ∙ z) x) ∙ (lengths-by x ∙ later _)))

-- ---- all that is judged

module _ (sheet : LayoutParams) (s ink : List ℕ) (kinds scratch : ℕ) where
  whole : segment_judged sheet s ink kinds scratch ≡ refuse_if (not (valid sheet)) 6 (head_refusal (length s) (held s) (eqb (word_at s 0) 0) 18 (behind_refusal s ink kinds scratch 0))
  unfolding segment_judged segment_refusal held_refusal behind_refusal held
  whole = refl

  module _ (v : Bool) (ev : v ≡ valid sheet) where
    pub sheet-no : not v ≡ true → 6 ≡ segment_judged sheet s ink kinds scratch
    sheet-no z = sym (whole ∙ (ap (λ b. refuse_if b 6 (head_refusal (length s) (held s) (eqb (word_at s 0) 0) 18 (behind_refusal s ink kinds scratch 0))) (ap not (sym ev) ∙ z) ∙ (unfold refuse_if in refl)))

    module _ (gv : not v ≡ false) (st : ℕ) (est : st ≡ word_at s 0) (head : ℕ) (ehd : head ≡ head_refusal (length s) (held s) (eqb st 0) 18 0) where
      sheet-yes : (x : ℕ) → refuse_if (not (valid sheet)) 6 x ≡ x
      sheet-yes x = no-refusal _ 6 x (ap not (sym ev) ∙ gv)

      head-by : head ≡ head_refusal (length s) (held s) (eqb (word_at s 0) 0) 18 0
      head-by = ehd ∙ ap (λ z. head_refusal (length s) (held s) (eqb z 0) 18 0) est

      pub header-no : (head ≡ 0 → ⊥) → head ≡ segment_judged sheet s ink kinds scratch
      header-no z =
          head-by
          ∙ (sym ((head-passes (length s) (held s) (eqb (word_at s 0) 0) 17).stop (λ q. z (head-by ∙ q)) (behind_refusal s ink kinds scratch 0))
          ∙ (sym (sheet-yes _) ∙ sym whole))

      module _ (gh : head ≡ 0) where
        pub header-yes : (64 ≤ length s) × (limits_ok (held s) ≡ true)
        unfolding head_refusal
        header-yes =
            let t₁ = refusal-passed (ltb (length s) 64) 8 _ (sym head-by ∙ gh) in
            let t₂ = refusal-passed (state_spoiled (held s)) 15 _ t₁.later in
            let t₃ = refusal-passed (eqb (word_at s 0) 0) 17 _ t₂.later in
            let t₄ = refusal-passed (not (limits_ok (held s))) 15 _ t₃.later in
            (ltb-false _ _ t₁.passed, not-false _ t₄.passed)

        pub behind-all : (r : ℕ) → r ≡ behind_refusal s ink kinds scratch 0 → r ≡ segment_judged sheet s ink kinds scratch
        behind-all r e =
            e
            ∙ (sym ((head-passes (length s) (held s) (eqb (word_at s 0) 0) 17).pass (sym head-by ∙ gh) (behind_refusal s ink kinds scratch 0))
            ∙ (sym (sheet-yes _) ∙ sym whole))

-- ---- an accepted call

pub record Segmentable (sheet : LayoutParams) (s ink : List ℕ) (kinds scratch : ℕ) : Type 0 where
  pub good : ValidSheet sheet
  pub words : 64 ≤ length s
  pub limits : limits_ok (held s) ≡ true
  pub room : store_held (held s) ≤ length s
  pub ink-room : dots_held (held s) ≤ length ink
  pub kinds_room : dots_held (held s) ≤ kinds
  pub scratch_room : scratch_held (held s) ≤ scratch
  pub sound : frame_spoiled s ≡ false
  pub ones : ink_spoiled (dots_held (held s)) ink ≡ false

neither : (a b : Bool) → (a || b) ≡ false → (a ≡ false) × (b ≡ false)
neither false false e = (refl, refl)
neither false true e = absurd (true≢false e)
neither true b e = absurd (true≢false e)

pub segmentable : (sheet : LayoutParams) (s ink : List ℕ) (kinds scratch : ℕ) → segment_judged sheet s ink kinds scratch ≡ 0 → Segmentable sheet s ink kinds scratch
unfolding segment_judged segment_refusal held_refusal head_refusal
segmentable sheet s ink kinds scratch e =
    let g = held s in
    let t₁ = refusal-passed (not (valid sheet)) 5 _ e in
    let t₂ = refusal-passed (ltb (length s) 64) 8 _ t₁.later in
    let t₃ = refusal-passed (state_spoiled g) 15 _ t₂.later in
    let t₄ = refusal-passed (eqb g.state 0) 17 _ t₃.later in
    let t₅ = refusal-passed (not (limits_ok g)) 15 _ t₄.later in
    let t₆ = refusal-passed (ltb (length s) (store_held g)) 8 _ t₅.later in
    let t₇ = refusal-passed (ltb (length ink) (dots_held g)) 8 _ t₆.later in
    let t₈ = refusal-passed (ltb kinds (dots_held g)) 8 _ t₇.later in
    let t₉ = refusal-passed (ltb scratch (scratch_held g)) 8 _ t₈.later in
    let t₀ = refusal-passed (frame_spoiled s || ink_spoiled (dots_held g) ink) 15 _ t₉.later in
    let z = neither (frame_spoiled s) (ink_spoiled (dots_held g) ink) t₀.passed in
    record {
      good = valid-gives sheet (yes (not-false (valid sheet) t₁.passed));
      words = ltb-false (length s) 64 t₂.passed;
      limits = not-false (limits_ok g) t₅.passed;
      room = ltb-false (length s) (store_held g) t₆.passed;
      ink-room = ltb-false (length ink) (dots_held g) t₇.passed;
      kinds_room = ltb-false kinds (dots_held g) t₈.passed;
      scratch_room = ltb-false scratch (scratch_held g) t₉.passed;
      sound = z.0;
      ones = z.1;
    }

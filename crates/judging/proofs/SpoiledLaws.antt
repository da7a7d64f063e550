-- Readings of results: what is judged, and what an accepted reading has passed.
use mathlib.Core.Path.{◌≡◌, refl, sym, ap, ◌∙◌}
use mathlib.Core.Bool.{Bool, true, false, not, ◌&&◌, ◌||◌, true≢false}
use mathlib.Core.List.{List}
use Prim.Native.Nat.{ℕ, suc, ◌*◌, ◌≤◌}
use borrow.Author.Tests.{ltb-false, not-false}
use lib.Dec.{eqb, ltb}
use lib.Ieee.{Float}
use lib.ListN.{length, get_or, take}
use Rattle.memory.specs.rules.Floats.{float_at}
use Rattle.memory.specs.rules.Limits.{store_words}
use Rattle.memory.specs.rules.Refusals.{refuse_if}
use Rattle.memory.specs.rules.Words.{word_at}
use Rattle.memory.proofs.RefusalLaws.{refusal-passed, Passes, passes_none, passes-if}
use Rattle.levelling.specs.rules.Frames.{Frame, frame}
use Rattle.memory.specs.rules.Masks.{is_mask}
use Rattle.segmenting.specs.rules.Figures.{figures_length}
use Rattle.judging.specs.rules.Header.{Held, held, frame_held, store_held, dots_held, lists_at, part, figures_at}
use Rattle.judging.specs.rules.Views.{view_of, view_with}
use Rattle.judging.specs.rules.Spoiled.{limits_ok, frame_spoiled, ink_spoiled, kinds_ok, results_ok, unit_ok, counts_ok, ink_held, results_spoiled}
use Rattle.judging.specs.rules.Refusals.{head_refusal, held_refusal, result_refusal}
use Rattle.judging.specs.stages.Judged.{lists_ok, words_ok, rest_refusal}

-- ---- tests in other orders

four-nine : (a b c l : Bool) (x : ℕ) → refuse_if (a || b || c || l) 9 x ≡ refuse_if a 9 (refuse_if b 9 (refuse_if c 9 (refuse_if l 9 x)))
unfolding refuse_if
four-nine true b c l x = refl
four-nine false true c l x = refl
four-nine false false true l x = refl
four-nine false false false l x = refl

four-false : (a b c l : Bool) → (a || b || c || l) ≡ false → (a ≡ false) × (b ≡ false) × (c ≡ false) × (l ≡ false)
four-false true b c l e = absurd (true≢false e)
four-false false true c l e = absurd (true≢false e)
four-false false false true l e = absurd (true≢false e)
four-false false false false l e = (refl, refl, refl, e)

refuse-true : (b : Bool) (k x : ℕ) → b ≡ true → k ≡ refuse_if b k x
unfolding refuse_if
refuse-true b k x e = sym (rw e)

refuse-false : (b : Bool) (k x : ℕ) → b ≡ false → x ≡ refuse_if b k x
unfolding refuse_if
refuse-false b k x e = sym (rw e)

eleven : (x a b c d e f g i j k : Bool) → (x && a && b && c && d && e && f && g && i && j && k) ≡ (x && (a && b && c && d && e && f && g && i && j) && k)
eleven true a b c d e f g i j k = refl
eleven false a b c d e f g i j k = refl

gather : (m u a k : Bool) → (m || not u || not (a && k)) ≡ (m || not a || not (u && k))
gather true u a k = refl
gather false true true k = refl
gather false true false k = refl
gather false false true k = refl
gather false false false k = refl

-- ---- results

page-w-is : (pw ph : ℕ) (t : Float) → (frame pw ph t).page_w ≡ pw
unfolding frame
page-w-is pw ph t = refl

-- all tests of results: those on words, then the kinds
pub results-split : (s ink kinds : List ℕ) → results_ok (held s).capacity ink (view_of s kinds)
    ≡ (words_ok (frame_held (held s)).w (frame_held (held s)).h (held s).capacity (part figures_at figures_length s) (lists_at (held s).page_w (frame_held (held s)).h) s
    && kinds_ok ink (take (dots_held (held s)) kinds) (dots_held (held s)))
unfolding results_ok view_of view_with words_ok lists_ok
results-split s ink kinds =
    eleven (unit_ok (part figures_at figures_length s) && counts_ok (frame_held (held s)).w (held s).capacity (part figures_at figures_length s)) _ _ _ _ _ _ _ _ _ _
    ∙ ap (λ z. words_ok (frame_held (held s)).w (frame_held (held s)).h (held s).capacity (part figures_at figures_length s) (lists_at z (frame_held (held s)).h) s
    && kinds_ok ink (take (dots_held (held s)) kinds) (dots_held (held s))) (page-w-is (held s).page_w (held s).page_h (held s).slope)

module _ (s ink kinds : List ℕ) (lacking : Bool) (t : Float) (et : t ≡ float_at s 8) (w h : ℕ) (ew : w ≡ (frame (get_or s 1 0) (get_or s 2 0) t).w) (eh : h ≡ (frame (get_or s 1 0) (get_or s 2 0) t).h)
    (d : ℕ) (ed : d ≡ w * h) (n : ℕ) (en : n ≡ store_words (get_or s 1 0) w h (get_or s 5 0)) where
  frame-by : frame (get_or s 1 0) (get_or s 2 0) t ≡ frame_held (held s)
  unfolding held
  frame-by = ap (frame (get_or s 1 0) (get_or s 2 0)) et

  w-by : w ≡ (frame_held (held s)).w
  w-by = ew ∙ ap (λ (f : Frame). f.w) frame-by

  h-by : h ≡ (frame_held (held s)).h
  h-by = eh ∙ ap (λ (f : Frame). f.h) frame-by

  words-by : n ≡ store_held (held s)
  unfolding held
  words-by = en ∙ (λ i. store_words (get_or s 1 0) (w-by i) (h-by i) (get_or s 5 0))

  dots-by : d ≡ dots_held (held s)
  dots-by = ed ∙ (λ i. w-by i * h-by i)

  abbrev lacks : Bool
  lacks = ltb (length s) n || ltb (length ink) d || ltb (length kinds) d || lacking

  rest-is : refuse_if (ltb (length s) n || ltb (length ink) d || ltb (length kinds) d || lacking) 9 (refuse_if (results_spoiled s ink kinds) 16 0) ≡ rest_refusal s ink kinds lacking
  unfolding rest_refusal
  rest-is =
      four-nine (ltb (length s) n) (ltb (length ink) d) (ltb (length kinds) d) lacking _
      ∙ (λ i. refuse_if (ltb (length s) (words-by i)) 9 (refuse_if (ltb (length ink) (dots-by i)) 9 (refuse_if (ltb (length kinds) (dots-by i)) 9 (refuse_if lacking 9 (refuse_if (results_spoiled s ink kinds) 16 0)))))

  pub rest-lacking : (ltb (length s) n || ltb (length ink) d || ltb (length kinds) d || lacking) ≡ true → 9 ≡ rest_refusal s ink kinds lacking
  rest-lacking e = refuse-true (ltb (length s) n || ltb (length ink) d || ltb (length kinds) d || lacking) 9 _ e ∙ rest-is

  pub rest-room : (ltb (length s) n || ltb (length ink) d || ltb (length kinds) d || lacking) ≡ false → (n ≤ length s) × (d ≤ length ink) × (d ≤ length kinds)
  rest-room e =
      let z = four-false (ltb (length s) n) (ltb (length ink) d) (ltb (length kinds) d) lacking e in
      (ltb-false _ _ z.0, ltb-false _ _ z.1, ltb-false _ _ z.2)

  words-here : words_ok w h (get_or s 5 0) (part 10 15 s) (lists_at (get_or s 1 0) h) s
      ≡ words_ok (frame_held (held s)).w (frame_held (held s)).h (held s).capacity (part figures_at figures_length s) (lists_at (held s).page_w (frame_held (held s)).h) s
  unfolding held
  words-here = λ i. words_ok (w-by i) (h-by i) (get_or s 5 0) (part 10 15 s) (lists_at (get_or s 1 0) (h-by i)) s

  spoiled-is : (m u p : Bool) → m ≡ frame_spoiled s → u ≡ words_ok w h (get_or s 5 0) (part 10 15 s) (lists_at (get_or s 1 0) h) s
      → p ≡ (is_mask (take d ink) && kinds_ok (take d ink) (take d kinds) d) → (m || not u || not p) ≡ results_spoiled s ink kinds
  unfolding ink_spoiled
  spoiled-is m u p em eu ep =
      let D = dots_held (held s) in
      (λ i. em i || not ((eu ∙ words-here) i) || not ((ep ∙ (λ j. is_mask (take (dots-by j) ink) && kinds_ok (take (dots-by j) ink) (take (dots-by j) kinds) (dots-by j))) i))
      ∙ (gather (frame_spoiled s) (words_ok (frame_held (held s)).w (frame_held (held s)).h (held s).capacity (part figures_at figures_length s) (lists_at (held s).page_w (frame_held (held s)).h) s) (is_mask (take D ink)) (kinds_ok (take D ink) (take D kinds) D)
      ∙ ap (λ b. frame_spoiled s || not (is_mask (take D ink)) || not b) (sym (results-split s (take D ink) kinds)))

  pub rest-judged : (ltb (length s) n || ltb (length ink) d || ltb (length kinds) d || lacking) ≡ false → (r : ℕ) (m u p : Bool) → r ≡ refuse_if (m || not u || not p) 16 0 → m ≡ frame_spoiled s
      → u ≡ words_ok w h (get_or s 5 0) (part 10 15 s) (lists_at (get_or s 1 0) h) s → p ≡ (is_mask (take d ink) && kinds_ok (take d ink) (take d kinds) d) → r ≡ rest_refusal s ink kinds lacking
  rest-judged e r m u p er em eu ep =
      er
      ∙ (ap (λ b. refuse_if b 16 0) (spoiled-is m u p em eu ep)
      ∙ (refuse-false (ltb (length s) n || ltb (length ink) d || ltb (length kinds) d || lacking) 9 _ e ∙ rest-is))

-- ---- the whole chain

head-passes : (ls : ℕ) (g : Held) (early : Bool) (k : ℕ) {F : ℕ → ℕ} → Passes F → Passes (λ x. head_refusal ls g early (suc k) (F x))
unfolding head_refusal
head-passes ls g early k p = passes-if _ 8 (passes-if _ 15 (passes-if early k (passes-if _ 15 p)))

module _ (s ink kinds : List ℕ) (lacking : Bool) where
  -- the chain of a reading with `late` behind it
  abbrev pub chain : ℕ → ℕ
  chain x = held_refusal (length s) (held s) (not (eqb (held s).state 2)) 19
      (refuse_if (ltb (length ink) (dots_held (held s))) 9
      (refuse_if (ltb (length kinds) (dots_held (held s))) 9
      (refuse_if lacking 9
      (refuse_if (results_spoiled s ink kinds) 16 x))))

  pub chain-passes : Passes (λ x. held_refusal (length s) (held s) (not (eqb (held s).state 2)) 19 (refuse_if (ltb (length ink) (dots_held (held s))) 9 (refuse_if (ltb (length kinds) (dots_held (held s))) 9 (refuse_if lacking 9 (refuse_if (results_spoiled s ink kinds) 16 x)))))
  unfolding held_refusal
  chain-passes = head-passes (length s) (held s) _ 18 (passes-if _ 8 (passes-if _ 8 (passes-if _ 8 (passes-if lacking 8 (passes-if _ 15 passes_none)))))

  abbrev pub judged : ℕ
  judged = result_refusal (length s) (length ink) (length kinds) (held s) lacking (results_spoiled s ink kinds) false false

  pub judged-is : chain 0 ≡ judged
  unfolding result_refusal refuse_if
  judged-is = refl

  state-is : word_at s 0 ≡ (held s).state
  unfolding held
  state-is = refl

  module _ (st : ℕ) (est : st ≡ word_at s 0) (head : ℕ) (ehd : head ≡ head_refusal (length s) (held s) (not (eqb st 2)) 19 0) where
    reading-is : head_refusal (length s) (held s) (not (eqb st 2)) 19 (rest_refusal s ink kinds lacking) ≡ judged
    unfolding held_refusal rest_refusal
    reading-is = ap (λ z. head_refusal (length s) (held s) (not (eqb z 2)) 19 (rest_refusal s ink kinds lacking)) (est ∙ state-is) ∙ judged-is

    pub reading-no : (head ≡ 0 → ⊥) → head ≡ result_refusal (length s) (length ink) (length kinds) (held s) lacking (results_spoiled s ink kinds) false false
    reading-no z = ehd ∙ (sym ((head-passes (length s) (held s) (not (eqb st 2)) 18 passes_none).stop (λ q. z (ehd ∙ q)) (rest_refusal s ink kinds lacking)) ∙ reading-is)

    pub reading-yes : head ≡ 0 → (64 ≤ length s) × (limits_ok (held s) ≡ true)
    unfolding head_refusal
    reading-yes z =
        let t₁ = refusal-passed _ 8 _ (sym ehd ∙ z) in
        let t₂ = refusal-passed _ 15 _ t₁.later in
        let t₃ = refusal-passed _ 18 _ t₂.later in
        let t₄ = refusal-passed _ 15 _ t₃.later in
        (ltb-false _ _ t₁.passed, not-false _ t₄.passed)

    pub reading-rest : head ≡ 0 → (r : ℕ) → r ≡ rest_refusal s ink kinds lacking → r ≡ result_refusal (length s) (length ink) (length kinds) (held s) lacking (results_spoiled s ink kinds) false false
    reading-rest z r er = er ∙ (sym ((head-passes (length s) (held s) (not (eqb st 2)) 18 passes_none).pass (sym ehd ∙ z) (rest_refusal s ink kinds lacking)) ∙ reading-is)

-- what an accepted reading has passed
pub record ReadableResults (s ink kinds : List ℕ) : Type 0 where
  pub words : 64 ≤ length s
  pub limits : limits_ok (held s) ≡ true
  pub room : store_held (held s) ≤ length s
  pub ink-room : dots_held (held s) ≤ length ink
  pub kinds_room : dots_held (held s) ≤ length kinds
  pub sound : frame_spoiled s ≡ false
  pub results : results_ok (held s).capacity (ink_held (held s) ink) (view_of s kinds) ≡ true

three-false : (a b c : Bool) → (a || b || not c) ≡ false → (a ≡ false) × (c ≡ true)
three-false true b c e = absurd (true≢false e)
three-false false true c e = absurd (true≢false e)
three-false false false true e = (refl, refl)
three-false false false false e = absurd (true≢false e)

pub readable_results : (s ink kinds : List ℕ) (lacking : Bool) → result_refusal (length s) (length ink) (length kinds) (held s) lacking (results_spoiled s ink kinds) false false ≡ 0 → ReadableResults s ink kinds × (lacking ≡ false)
unfolding result_refusal held_refusal head_refusal
readable_results s ink kinds lacking e =
    let t₁ = refusal-passed _ 8 _ e in
    let t₂ = refusal-passed _ 15 _ t₁.later in
    let t₃ = refusal-passed _ 18 _ t₂.later in
    let t₄ = refusal-passed _ 15 _ t₃.later in
    let t₅ = refusal-passed _ 8 _ t₄.later in
    let t₆ = refusal-passed _ 8 _ t₅.later in
    let t₇ = refusal-passed _ 8 _ t₆.later in
    let t₈ = refusal-passed _ 8 _ t₇.later in
    let t₉ = refusal-passed _ 15 _ t₈.later in
    let z = three-false (frame_spoiled s) (ink_spoiled (dots_held (held s)) ink) (results_ok (held s).capacity (ink_held (held s) ink) (view_of s kinds)) t₉.passed in (
      record {
        words = ltb-false _ _ t₁.passed;
        limits = not-false _ t₄.passed;
        room = ltb-false _ _ t₅.passed;
        ink-room = ltb-false _ _ t₆.passed;
        kinds_room = ltb-false _ _ t₇.passed;
        sound = z.0;
        results = z.1;
      },
      t₈.passed,
    )

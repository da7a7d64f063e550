-- A whole segmentation at the stages: which number a call is refused with, what a passed chain says, and what the call leaves. Assumes nothing.
use mathlib.Core.Path.{◌≡◌, refl, sym, ap, ◌∙◌, subst}
use mathlib.Core.List.{List, ◌++◌}
use mathlib.Core.Bool.{not}
use Prim.Native.Nat.{ℕ, ◌*◌, ◌≤◌, ◌<◌}
use native.Mathlib.Nat.{le_refl}
use native.Mathlib.Omega.{arith}
use borrow.Author.Tests.{ltb-false, not-false, ne_eqb}
use lib.Dec.{ltb}
use lib.ListN.{length, get_or, take, drop, length-append, length-drop}
use lib.Seq.{drop_at, length-take-le}
use Rattle.memory.specs.rules.Limits.{max_frame_width, max_frame_height, max_capacity, scratch_words}
use Rattle.memory.specs.rules.Masks.{is_mask}
use Rattle.memory.proofs.MaskLaws.{mask-ones}
use Rattle.memory.proofs.RefusalLaws.{refusal-passed, Passes, passes_none, passes-if}
use Rattle.rounding.proofs.Tests.{yes}
use Rattle.params.specs.rules.Valid.{valid}
use Rattle.params.specs.rules.Facts.{ValidSheet}
use Rattle.params.specs.declared.LayoutParams.{LayoutParams}
use Rattle.params.proofs.SheetLaws.{valid-gives}
use Rattle.segmenting.specs.rules.Layouts.{layout, layout_refusal}
use Rattle.segmenting.specs.rules.Answers as Answers
use Rattle.segmenting.specs.stages.Rooms.{SegmentRoom}
use Rattle.segmenting.specs.rules.Figures.{figures_length}
use Rattle.segmenting.specs.rules.Results.{result_words}
use Rattle.std.specs.Prelude.{Result}
use Rattle.memory.specs.declared.refusals.Refusal.{Refusal}
use Rattle.memory.specs.rules.Refusals.{answer_number}
use Rattle.segmenting.specs.declared.results.Segmentation.{Segmentation}
use Rattle.stages.proofs.FrameLaws.{frame-pass, room-pass, frame-good, room-good}
use Rattle.stages.specs.rules.Pages.{plane_refusal, lent_refusal, figures_left, left, left_with, paged}

-- A chain of tests before others

pub plane-pass : (w h : ℕ) (m : List ℕ) → Passes (plane_refusal w h m)
unfolding plane_refusal
plane-pass w h m = frame-pass w h (length m) (passes-if (not (is_mask m)) 2 passes_none)

lent-pass : (p : LayoutParams) (w dots P words results kinds figures : ℕ) → Passes (lent_refusal p w dots P words results kinds figures)
unfolding lent_refusal
lent-pass p w dots P words results kinds figures =
    passes-if (not (valid p)) 5
    (room-pass dots P words (passes-if (ltb results (result_words w P)) 8 (passes-if (ltb kinds dots) 8 (passes-if (ltb figures figures_length) 8 passes_none))))

-- What a passed chain says

pub record PlaneGood (w h : ℕ) (m : List ℕ) : Type 0 where
  pub wide : 0 < w
  pub narrow : w ≤ max_frame_width
  pub high : 0 < h
  pub low : h ≤ max_frame_height
  pub dots : w * h ≤ max_frame_width * max_frame_height
  pub whole : length m ≡ w * h
  pub ones : (i : ℕ) → get_or m i 0 ≤ 1

pub plane-good : (w h : ℕ) (m : List ℕ) → plane_refusal w h m 0 ≡ 0 → PlaneGood w h m
unfolding plane_refusal
plane-good w h m e =
    let f = frame-good w h (length m) _ e in
    let p = refusal-passed (not (is_mask m)) 2 _ f.later in
    record {
      wide = f.wide;
      narrow = f.narrow;
      high = f.high;
      low = f.low;
      dots = f.dots;
      whole = f.whole;
      ones = mask-ones m (not-false (is_mask m) p.passed);
    }

pub record LentGood (p : LayoutParams) (w dots P words results kinds figures : ℕ) : Type 0 where
  pub sheet : ValidSheet p
  pub few : P ≤ max_capacity
  pub words_room : scratch_words dots P ≤ words
  pub results_room : result_words w P ≤ results
  pub kinds_room : dots ≤ kinds
  pub figures-room : figures_length ≤ figures

lent-good : (p : LayoutParams) (w dots P words results kinds figures : ℕ) → lent_refusal p w dots P words results kinds figures 0 ≡ 0 → LentGood p w dots P words results kinds figures
unfolding lent_refusal
lent-good p w dots P words results kinds figures e =
    let p₁ = refusal-passed (not (valid p)) 5 _ e in
    let r = room-good dots P words _ p₁.later in
    let p₂ = refusal-passed (ltb results (result_words w P)) 8 _ r.later in
    let p₃ = refusal-passed (ltb kinds dots) 8 _ p₂.later in
    let p₄ = refusal-passed (ltb figures figures_length) 8 _ p₃.later in
    record {
      sheet = valid-gives p (yes (not-false (valid p) p₁.passed));
      few = r.few;
      words_room = r.words_room;
      results_room = ltb-false results (result_words w P) p₂.passed;
      kinds_room = ltb-false kinds dots p₃.passed;
      figures-room = ltb-false figures figures_length p₄.passed;
    }

-- What a call leaves

module _ (p : LayoutParams) (w h : ℕ) (m : List ℕ) (P : ℕ) (words results kinds figures : List ℕ) where
  abbrev by-lent : ℕ → ℕ
  by-lent = lent_refusal p w (w * h) P (length words) (length results) (length kinds) (length figures)

  abbrev by-page : ℕ
  by-page = layout_refusal P (layout p w h m)

  refused : (n : ℕ) → plane_refusal w h m (by-lent by-page) ≡ n → (n ≡ 0 → ⊥)
      → left n results kinds figures (length words) (drop (scratch_words (w * h) P) words) ≡ paged p w h m P words results kinds figures
  unfolding Answers.segment_outcome_by
  refused n e ne = rw (e, ne_eqb n 0 ne) refl

  pub refused-plane : (n : ℕ) → n ≡ plane_refusal w h m 0 → (n ≡ 0 → ⊥)
      → left n results kinds figures (length words) (drop (scratch_words (w * h) P) words) ≡ paged p w h m P words results kinds figures
  refused-plane n e ne = refused n ((plane-pass w h m).stop (λ z. ne (e ∙ z)) (by-lent by-page) ∙ sym e) ne

  module _ (plane : ℕ) (ep : plane ≡ plane_refusal w h m 0) (gp : plane ≡ 0) where
    pub page-plane : PlaneGood w h m
    page-plane = plane-good w h m (sym ep ∙ gp)

    module _ (lent : ℕ) (el : lent ≡ by-lent 0) where
      pub refused-lent : (lent ≡ 0 → ⊥) → left lent results kinds figures (length words) (drop (scratch_words (w * h) P) words) ≡ paged p w h m P words results kinds figures
      refused-lent ne =
          refused lent
          ((plane-pass w h m).pass (sym ep ∙ gp) (by-lent by-page)
          ∙ ((lent-pass p w (w * h) P (length words) (length results) (length kinds) (length figures)).stop (λ z. ne (el ∙ z)) by-page ∙ sym el))
          ne

      module _ (gl : lent ≡ 0) where
        pub page-lent : LentGood p w (w * h) P (length words) (length results) (length kinds) (length figures)
        page-lent = lent-good p w (w * h) P (length words) (length results) (length kinds) (length figures) (sym el ∙ gl)

        pub page-room : SegmentRoom p w h m P (take (scratch_words (w * h) P) words) (length results) (length kinds)
        page-room =
            let G = page-plane in
            let L = page-lent in
            record {
              plane = record {
                wide = G.wide;
                narrow = G.narrow;
                high = G.high;
                low = G.low;
                whole = G.whole;
                ones = G.ones;
                few = L.few;
                valid = L.sheet;
                room = subst (λ z. scratch_words (w * h) P ≤ z) (sym (length-take-le (scratch_words (w * h) P) words L.words_room)) (le_refl _);
              };
              results_room = L.results_room;
              kinds_room = L.kinds_room;
            }

        pub page-done : (n : ℕ) (r : Result Segmentation Refusal) (results' kinds' figures' part : List ℕ) → length part ≡ length (take (scratch_words (w * h) P) words)
            → Answers.segment_outcome r results' kinds' ≡ Answers.segment_plane p w h m P results kinds
            → n ≡ answer_number r
            → figures' ≡ figures_left (Answers.figures_found r) figures
            → left n results' kinds' figures' (length (part ++ drop (scratch_words (w * h) P) words)) (drop (scratch_words (w * h) P) (part ++ drop (scratch_words (w * h) P) words))
            ≡ paged p w h m P words results kinds figures
        unfolding Answers.segment_plane
        page-done n r results' kinds' figures' part e s en ef =
            let need = scratch_words (w * h) P in
            let l : length part ≡ need = e ∙ length-take-le need words page-lent.words_room in
            let j : plane_refusal w h m (by-lent by-page) ≡ by-page =
            (plane-pass w h m).pass (sym ep ∙ gp) (by-lent by-page)
            ∙ (lent-pass p w (w * h) P (length words) (length results) (length kinds) (length figures)).pass (sym el ∙ gl) by-page in
            let f : length (part ++ drop need words) ≡ length words = length-append part (drop need words) ∙ (let q = length-drop need words in let g = page-lent.words_room in omega arith) in
            let d : drop need (part ++ drop need words) ≡ drop need words = drop_at part (drop need words) need l in
            (λ i. left (en i) results' kinds' (ef i) (f i) (d i))
            ∙ (ap (λ (z : Answers.SegmentOutcome). left_with z figures (length words) (drop need words)) s
            ∙ ap (λ z. left_with (Answers.segment_outcome_by z w P (layout p w h m) results kinds) figures (length words) (drop need words)) (sym j))

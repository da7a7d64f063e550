-- Segmenting: the sides that an accepted store holds, and what the call leaves.
use mathlib.Core.Path.{◌≡◌, sym, ap, ◌∙◌, subst}
use mathlib.Core.Bool.{Bool, true, false, cond, ◌||◌}
use mathlib.Core.List.{List, ◌++◌}
use Prim.Native.Nat.{ℕ, ◌+◌, ◌-◌, ◌*◌, ◌≤◌, ◌<◌}
use native.Mathlib.Nat.{le_refl}
use native.Mathlib.Omega.{arith}
use borrow.Author.Tests.{ne_eqb, not-false}
use borrow.Rule.Slice.PartMut.{put_mid}
use lib.Dec.{eqb}
use lib.Ieee.{Float}
use lib.ListN.{length, get_or, take, drop, take-append-drop}
use lib.Seq.{take_at, drop_at, length-take-le}
use Rattle.memory.specs.rules.Limits.{scratch_words}
use Rattle.memory.specs.rules.Words.{word_at, over}
use Rattle.memory.proofs.PartLaws.{tail-part, tail-put}
use Rattle.params.specs.declared.LayoutParams.{LayoutParams}
use Rattle.levelling.specs.rules.Frames.{frame}
use Rattle.levelling.proofs.FrameLaws.{frame-fits}
use Rattle.memory.proofs.MaskLaws.{mask-ones}
use Rattle.segmenting.specs.rules.Layouts.{Layout, layout, layout_refusal}
use Rattle.segmenting.specs.rules.Answers as Answers
use Rattle.segmenting.specs.stages.Rooms.{SegmentRoom}
use Rattle.segmenting.specs.rules.Answers.{segment_plane, segment_outcome_by, figures_found}
use Rattle.segmenting.proofs.PutLaws.{part_length}
use Rattle.segmenting.specs.rules.Results.{result_words, results_left}
use Rattle.segmenting.specs.rules.Figures.{figures_of}
use Rattle.std.specs.Prelude.{Result, Some, None}
use Rattle.memory.specs.declared.refusals.Refusal.{Refusal}
use Rattle.memory.specs.rules.Refusals.{answer_number}
use Rattle.segmenting.specs.declared.results.Segmentation.{Segmentation}
use Rattle.judging.specs.rules.Header.{held, frame_held, dots_held, lists_at, part, scratch_held}
use Rattle.judging.specs.rules.Spoiled.{frame_spoiled, ink_spoiled}
use Rattle.store.specs.rules.Written.{store_segmented}
use Rattle.store.specs.rules.Outcomes.{left, settled, layout_held, segment_left}
use Rattle.judging.specs.stages.Judged.{segment_judged}
use Rattle.store.specs.stages.Heads.{head_left}
use Rattle.store.proofs.HeadLaws.{lists-then-head}
use Rattle.judging.proofs.LimitLaws.{Limited, limited}
use Rattle.judging.proofs.SegmentLaws.{Segmentable, segmentable, segment-passes}
use Rattle.store.proofs.HeldFrames.{frame-words}

frame-wide : (w h : ℕ) (slope : Float) → 0 < w → 0 < (frame w h slope).w
unfolding frame
frame-wide w h slope l = omega arith

frame-high : (w h : ℕ) (slope : Float) → 0 < h → 0 < (frame w h slope).h
unfolding frame
frame-high w h slope l = omega arith

ink-bits : (dots : ℕ) (m : List ℕ) → ink_spoiled dots m ≡ false → (i : ℕ) → get_or (take dots m) i 0 ≤ 1
unfolding ink_spoiled
ink-bits dots m e = mask-ones (take dots m) (not-false _ e)

-- the sides that an accepted store holds, by its words
module _ (sheet : LayoutParams) (s ink : List ℕ) (kinds scratch : ℕ) (S : Segmentable sheet s ink kinds scratch) (pw w h P : ℕ)
    (e₁ : pw ≡ word_at s 1) (e₃ : w ≡ word_at s 3) (e₄ : h ≡ word_at s 4) (e₅ : P ≡ word_at s 5) (at : ℕ) (ea : at ≡ lists_at pw h) where
  pub page-by : pw ≡ (held s).page_w
  unfolding held
  page-by = e₁

  sides : ((held s).w ≡ (frame_held (held s)).w) × ((held s).h ≡ (frame_held (held s)).h)
  sides = let f = frame-words s S.limits S.sound in (f.0, f.1)

  w_held : w ≡ (held s).w
  unfolding held
  w_held = e₃

  h-held : h ≡ (held s).h
  unfolding held
  h-held = e₄

  pub wide_by : w ≡ (frame_held (held s)).w
  wide_by = w_held ∙ sides.0

  pub high-by : h ≡ (frame_held (held s)).h
  high-by = h-held ∙ sides.1

  pub capacity-by : P ≡ (held s).capacity
  unfolding held
  capacity-by = e₅

  pub dots-by : w * h ≡ dots_held (held s)
  dots-by = λ i. wide_by i * high-by i

  pub lists-by : at ≡ lists_at (held s).page_w (frame_held (held s)).h
  lists-by = ea ∙ (λ i. lists_at (page-by i) (high-by i))

  few : Limited (held s)
  few = limited (held s) S.limits

  pub lists-room : at + result_words w P ≤ length s
  lists-room = let a = page-by in let b = wide_by in let c = high-by in let d = capacity-by in let r = S.room in omega arith

  pub start_fits : at ≤ length s
  start_fits = let r = lists-room in omega arith

  pub plane-room : (w * h ≤ length ink) × (w * h ≤ kinds) × (scratch_words (w * h) P ≤ scratch)
  plane-room = (
    subst (λ z. z ≤ length ink) (sym dots-by) S.ink-room,
    subst (λ z. z ≤ kinds) (sym dots-by) S.kinds_room,
    subst (λ z. z ≤ scratch) (λ i. scratch_words (sym dots-by i) (sym capacity-by i)) S.scratch_room,
  )

  pub segment-room : (work : List ℕ) → length work ≡ scratch → SegmentRoom sheet w h (take (w * h) ink) P (take (scratch_words (w * h) P) work) (length s - at) kinds
  segment-room work e =
      let b = wide_by in
      let c = high-by in
      let d = capacity-by in
      let fits = frame-fits (held s).page_w (held s).page_h (held s).slope few.sides few.within in
      let p = plane-room in
      let r = lists-room in
      record {
        plane = record {
          wide = let q = frame-wide (held s).page_w (held s).page_h (held s).slope few.sides.wide in omega arith;
          narrow = let q = fits.0 in omega arith;
          high = let q = frame-high (held s).page_w (held s).page_h (held s).slope few.sides.high in omega arith;
          low = let q = fits.1 in omega arith;
          whole = length-take-le (w * h) ink p.0;
          ones = ink-bits (w * h) ink (ap (λ z. ink_spoiled z ink) dots-by ∙ S.ones);
          few = let q = few.few in omega arith;
          valid = S.good;
          room = subst (λ z. scratch_words (w * h) P ≤ z) (sym (length-take-le (scratch_words (w * h) P) work (subst (λ z. scratch_words (w * h) P ≤ z) (sym e) p.2))) (le_refl _);
        };
        results_room = omega arith;
        kinds_room = p.1;
      }

-- ---- what the call leaves

-- refused before the page itself is looked at
pub judged-no : (sheet : LayoutParams) (s ink kinds : List ℕ) (scratch n : ℕ) → n ≡ segment_judged sheet s ink (length kinds) scratch → (n ≡ 0 → ⊥) → left n s kinds ≡ segment_left sheet s ink kinds scratch
unfolding segment_left segment_judged settled
judged-no sheet s ink kinds scratch n e z =
    let g = held s in
    let q = (segment-passes sheet (length s) (length ink) (length kinds) scratch g (frame_spoiled s || ink_spoiled (dots_held g) ink)).stop (λ x. z (e ∙ x)) (layout_refusal g.capacity (layout_held sheet g ink)) ∙ sym e in
    rw (q, ne_eqb n 0 z)

-- segmented, or refused by the page
judged-yes : (sheet : LayoutParams) (s ink kinds : List ℕ) (scratch : ℕ) → segment_judged sheet s ink (length kinds) scratch ≡ 0
    → settled (layout_refusal (held s).capacity (layout_held sheet (held s) ink)) s kinds
    (store_segmented (held s).page_w (frame_held (held s)).w (frame_held (held s)).h (held s).capacity (layout_held sheet (held s) ink) s) (over (layout_held sheet (held s) ink).plane kinds)
    ≡ segment_left sheet s ink kinds scratch
unfolding segment_left segment_judged
judged-yes sheet s ink kinds scratch e =
    let g = held s in
    let l = layout_held sheet g ink in
    ap (λ n. settled n s kinds (store_segmented g.page_w (frame_held g).w (frame_held g).h g.capacity l s) (over l.plane kinds))
    (sym ((segment-passes sheet (length s) (length ink) (length kinds) scratch g (frame_spoiled s || ink_spoiled (dots_held g) ink)).pass e (layout_refusal g.capacity l)))

-- the lists written, then the header, or nothing
page-left : (pw w h P : ℕ) (l : Layout) (s kinds : List ℕ) (r : Result Segmentation Refusal) (k : ℕ) (s' kinds' : List ℕ) → lists_at pw h ≤ length s → take (lists_at pw h) s' ≡ take (lists_at pw h) s
    → Answers.segment_outcome r (drop (lists_at pw h) s') kinds' ≡ segment_outcome_by k w P l (drop (lists_at pw h) s) kinds
    → left (answer_number r) (head_left (figures_found r) s') kinds' ≡ settled k s kinds (store_segmented pw w h P l s) (over l.plane kinds)
unfolding segment_outcome_by settled
page-left pw w h P l s kinds r k s' kinds' room t e =
    let at = lists_at pw h in
    let b = eqb k 0 in
    let s'-is : s' ≡ take at s ++ cond b (results_left w P l (drop at s)) (drop at s) =
    sym (take-append-drop at s') ∙ (λ i. t i ++ (e i).results) in
    (λ i. left (e i).number (head_left (e i).figures (s'-is i)) (e i).plane)
    ∙ (λ i. left k (go b i) (cond b (over l.plane kinds) kinds))
  where
    go : (b : Bool) → head_left (cond b (Some (figures_of l)) None) (take (lists_at pw h) s ++ cond b (results_left w P l (drop (lists_at pw h) s)) (drop (lists_at pw h) s))
        ≡ cond b (store_segmented pw w h P l s) s
    go true = lists-then-head pw w h P l s room
    go false = take-append-drop (lists_at pw h) s

module _ (sheet : LayoutParams) (s ink kinds : List ℕ) (scratch : ℕ) (J : segment_judged sheet s ink (length kinds) scratch ≡ 0) (pw w h P : ℕ)
    (e₁ : pw ≡ word_at s 1) (e₃ : w ≡ word_at s 3) (e₄ : h ≡ word_at s 4) (e₅ : P ≡ word_at s 5) (at : ℕ) (ea : at ≡ lists_at pw h) where
  abbrev ok : Segmentable sheet s ink (length kinds) scratch
  ok = segmentable sheet s ink (length kinds) scratch J

  pub page-done : (r : Result Segmentation Refusal) (n : ℕ) (s' kinds' s'' : List ℕ) → take at s' ≡ take at s
      → Answers.segment_outcome r (drop at s') kinds' ≡ segment_plane sheet w h (take (w * h) ink) P (drop at s) kinds
      → n ≡ answer_number r → s'' ≡ head_left (figures_found r) s' → left n s'' kinds' ≡ segment_left sheet s ink kinds scratch
  unfolding segment_plane
  page-done r n s' kinds' s'' t e en es =
      let g = held s in
      let A = lists-by sheet s ink (length kinds) scratch ok pw w h P e₁ e₃ e₄ e₅ at ea in
      let W = wide_by sheet s ink (length kinds) scratch ok pw w h P e₁ e₃ e₄ e₅ at ea in
      let H = high-by sheet s ink (length kinds) scratch ok pw w h P e₁ e₃ e₄ e₅ at ea in
      let C = capacity-by sheet s ink (length kinds) scratch ok pw w h P e₁ e₃ e₄ e₅ at ea in
      let F = start_fits sheet s ink (length kinds) scratch ok pw w h P e₁ e₃ e₄ e₅ at ea in
      let L = layout_held sheet g ink in
      (λ i. left (en i) (es i) kinds')
      ∙ (page-left g.page_w (frame_held g).w (frame_held g).h g.capacity L s kinds r (layout_refusal g.capacity L) s' kinds' (subst (λ z. z ≤ length s) A F)
      (subst (λ z. take z s' ≡ take z s) A t)
      ((λ i. Answers.segment_outcome r (drop (sym A i) s') kinds')
      ∙ (e ∙ (λ i. segment_outcome_by (layout_refusal (C i) (layout sheet (W i) (H i) (take (W i * H i) ink))) (W i) (C i) (layout sheet (W i) (H i) (take (W i * H i) ink)) (drop (A i) s) kinds)))
      ∙ judged-yes sheet s ink kinds scratch J)

  pub past-kept : (work work' : List ℕ) → drop (scratch_words (w * h) P) work' ≡ drop (scratch_words (w * h) P) work → drop (scratch_held (held s)) work' ≡ drop (scratch_held (held s)) work
  past-kept work work' e =
      let D = dots-by sheet s ink (length kinds) scratch ok pw w h P e₁ e₃ e₄ e₅ at ea in
      let C = capacity-by sheet s ink (length kinds) scratch ok pw w h P e₁ e₃ e₄ e₅ at ea in
      subst (λ z. drop z work' ≡ drop z work) (λ i. scratch_words (D i) (C i)) e

-- ---- the parts that are lent

module _ (sheet : LayoutParams) (w h d P n start : ℕ) (s ink scratch : List ℕ) (ed : d ≡ w * h) (en : n ≡ scratch_words d P) where
  pub parts-room : (k : ℕ) → SegmentRoom sheet w h (take (w * h) ink) P (take (scratch_words (w * h) P) scratch) (length s - start) k
      → SegmentRoom sheet w h (take d ink) P (take n scratch) (length (take (length s - start) (drop start s))) k
  parts-room k r =
      subst (λ z. SegmentRoom sheet w h (take d ink) P (take z scratch) (length (take (length s - start) (drop start s))) k) (sym en)
      (subst (λ z. SegmentRoom sheet w h (take z ink) P (take (scratch_words z P) scratch) (length (take (length s - start) (drop start s))) k) (sym ed)
      (subst (λ z. SegmentRoom sheet w h (take (w * h) ink) P (take (scratch_words (w * h) P) scratch) z k) (sym (part_length start s)) r))

  pub parts-done : (kinds : List ℕ) (r : Result Segmentation Refusal) (part kinds' work : List ℕ) → start ≤ length s
      → scratch_words (w * h) P ≤ length scratch → length work ≡ length (take n scratch)
      → Answers.segment_outcome r part kinds' ≡ segment_plane sheet w h (take d ink) P (take (length s - start) (drop start s)) kinds
      → (take start (put_mid start (length s - start) s part) ≡ take start s)
      × (Answers.segment_outcome r (drop start (put_mid start (length s - start) s part)) kinds' ≡ segment_plane sheet w h (take (w * h) ink) P (drop start s) kinds)
      × (drop (scratch_words (w * h) P) (work ++ drop n scratch) ≡ drop (scratch_words (w * h) P) scratch)
  parts-done kinds r part kinds' work room l lw e =
      let k : length (take start s) ≡ start = length-take-le start s room in
      let q : put_mid start (length s - start) s part ≡ take start s ++ part = tail-put start s part in
      let m : scratch_words (w * h) P ≡ n = (λ i. scratch_words (sym ed i) P) ∙ sym en in (
        ap (take start) q ∙ take_at (take start s) part start k,
        ap (λ (z : List ℕ). Answers.segment_outcome r z kinds') (ap (drop start) q ∙ drop_at (take start s) part start k)
            ∙ (e ∙ (λ i. segment_plane sheet w h (take (ed i) ink) P (tail-part start s i) kinds)),
        ap (λ z. drop z (work ++ drop n scratch)) m
            ∙ (drop_at work (drop n scratch) n (lw ∙ length-take-le n scratch (subst (λ z. z ≤ length scratch) m l))
            ∙ ap (λ z. drop z scratch) (sym m)),
      )

-- The dots of a kind in a box, over the shears of a store that may be read.
use mathlib.Core.Path.{◌≡◌, refl, sym, ap, ◌∙◌, subst}
use mathlib.Core.Bool.{Bool, true, false, not, ◌&&◌, ◌||◌, true≢false}
use mathlib.Core.List.{List, [], ◌∷◌}
use Prim.Native.Nat.{ℕ, ◌+◌, ◌*◌, ◌≤◌, ◌<◌}
use native.Mathlib.Nat.{mul-le-mul}
use native.Mathlib.Omega.{arith}
use borrow.Author.Tests.{lt-ltb, le-ltb, leb-true}
use lib.Dec.{ltb, leb}
use lib.Ieee.{Float}
use lib.ListN.{length, get_or, take, drop}
use lib.Seq.{length-take-le}
use Rattle.memory.specs.rules.Lists.{count_if, keep, upto}
use Rattle.memory.specs.rules.Refusals.{refuse_if}
use Rattle.memory.specs.rules.Words.{over}
use Rattle.memory.proofs.BoolLaws.{and_right}
use Rattle.memory.specs.declared.rect.Rect.{Rect}
use Rattle.levelling.specs.rules.Frames.{Frame, frame, frame_of, row_of, column_of}
use Rattle.levelling.proofs.FrameLaws.{length-shears, frame-fits, frame-is-frame_of}
use Rattle.memory.proofs.GreatestLaws.{greatest-bounds}
use Rattle.grouping.specs.stages.Dots.{FrameWords, OneWay}
use Rattle.grouping.proofs.SpanLaws.{frame-one-way}
use Rattle.grouping.specs.rules.Readings.{listed, columns_and_rows, dot_list}
use Rattle.memory.proofs.PlaceLaws.{count-length}
use Rattle.grouping.proofs.DotLaws.{count-few}
use Rattle.judging.specs.rules.Header.{held, frame_held, dots_held}
use Rattle.judging.specs.rules.Views.{view_of, view_with}
use Rattle.judging.specs.rules.Spoiled.{results_spoiled}
use Rattle.judging.specs.rules.Refusals.{result_refusal}
use Rattle.store.specs.rules.Readings.{ResultReading, dot_count, bad_dots}
use Rattle.store.specs.rules.Readings.Output.{none, words}
use Rattle.store.specs.rules.Outcomes.{told, result_told}
use Rattle.store.specs.stages.Areas.{words_frame, words_kinds, FrameHere}
use Rattle.judging.proofs.LimitLaws.{Limited, limited}
use Rattle.store.proofs.HeldFrames.{first-held, second-held}
use Rattle.judging.proofs.SpoiledLaws.{ReadableResults}
use Rattle.store.proofs.ToldLaws.{told-late, told-done}
use Rattle.store.proofs.TellLaws.{sides-are}

pub count_low : (s kinds : List ℕ) → FrameHere s kinds → (p : ℕ → Bool) → count_if p (get_or s 1 0 * get_or s 2 0) ≤ 67108864
count_low s kinds H p = let a = count-few p (get_or s 1 0 * get_or s 2 0) in let b = H.page in omega arith

-- ---- the shears of a store that is not spoiled

row_in : (pw ph : ℕ) (t : Float) (c y : ℕ) → y < ph → row_of (frame pw ph t) c y < (frame pw ph t).h
unfolding row_of frame
row_in pw ph t c y l = let b = greatest-bounds (frame pw ph t).shear c in omega arith

column-in : (pw ph : ℕ) (t : Float) (c y : ℕ) → c < pw → column_of (frame pw ph t) c y < (frame pw ph t).w
unfolding column_of frame
column-in pw ph t c y l = let b = greatest-bounds (frame pw ph t).shear_x (row_of (frame pw ph t) c y) in omega arith

module _ (s ink kinds : List ℕ) (R : ReadableResults s ink kinds) where
  lim : Limited (held s)
  lim = limited (held s) R.limits

  lengths : (length (frame_held (held s)).shear ≡ (held s).page_w) × (length (frame_held (held s)).shear_x ≡ (frame_held (held s)).h)
  lengths = length-shears (held s).page_w (held s).page_h (held s).slope lim.sides lim.within

  frame_here : words_frame s ≡ frame_held (held s)
  frame_here =
      let a = sides-are s ink kinds R in
      (λ i. frame_of (a.4 i) (a.5 i) (take (a.4 i) (drop 64 s)) (take (a.2 i) (drop (64 + a.4 i) s)) (a.1 i) (a.2 i))
      ∙ ((λ i. frame_of (held s).page_w (held s).page_h (first-held s R.limits R.sound i) (second-held s R.limits R.sound i) (frame_held (held s)).w (frame_held (held s)).h)
      ∙ sym (frame-is-frame_of (held s).page_w (held s).page_h (held s).slope lim.sides lim.within))

  kinds-here : words_kinds s kinds ≡ take (dots_held (held s)) kinds
  kinds-here = let a = sides-are s ink kinds R in λ i. take (a.1 i * a.2 i) kinds

  page-w-is : (frame_held (held s)).page_w ≡ (held s).page_w
  unfolding frame
  page-w-is = refl

  page-h-is : (frame_held (held s)).page_h ≡ (held s).page_h
  unfolding frame
  page-h-is = refl

  held-words : FrameWords (frame_held (held s)) (take (dots_held (held s)) kinds)
  held-words =
      let F = frame-fits (held s).page_w (held s).page_h (held s).slope lim.sides lim.within in
      let pw = page-w-is in
      let ph = page-h-is in
      let a = lim.sides.w_fits in
      let b = lim.sides.h_fits in
      let l = lengths in
      let d = length-take-le (dots_held (held s)) kinds R.kinds_room in
      record {
        page_wide = omega arith;
        page_high = omega arith;
        wide = F.0;
        high = F.1;
        shears = omega arith;
        rows = omega arith;
        dots = omega arith;
        row_inside = λ c y lc ly. row_in (held s).page_w (held s).page_h (held s).slope c y (omega arith);
        column_inside = λ c y lc ly. column-in (held s).page_w (held s).page_h (held s).slope c y (omega arith);
      }

  pub here : FrameHere s kinds
  here =
      let a = sides-are s ink kinds R in
      let A = a.4 in
      let B = a.5 in
      let H = a.2 in
      let r = R.room in
      let w = lim.sides.w_fits in
      let h = lim.sides.h_fits in
      let m : get_or s 1 0 * get_or s 2 0 ≤ 8192 * 8192 = mul-le-mul (let q : get_or s 1 0 ≤ 8192 = omega arith in q) (let q : get_or s 2 0 ≤ 8192 = omega arith in q) in
      let dots : get_or s 3 0 * get_or s 4 0 ≡ dots_held (held s) = λ i. a.1 i * a.2 i in
      let k = R.kinds_room in
      record {
        words = R.words;
        frame = subst (λ (f : Frame). FrameWords f (words_kinds s kinds)) (sym frame_here) (subst (λ (l : List ℕ). FrameWords (frame_held (held s)) l) (sym kinds-here) held-words);
        one_way = subst OneWay (sym frame_here) (frame-one-way (held s).page_w (held s).page_h (held s).slope lim.sides lim.within);
        room = omega (arith, A, H, r);
        dots = omega (arith, dots, k);
        page = omega (arith, m);
      }

  -- how many there are, and their words
  count_is : (k : ℕ) (r : Rect) → count_if (listed (words_frame s) (words_kinds s kinds) k r) (get_or s 1 0 * get_or s 2 0) ≡ dot_count (view_of s kinds).frame (view_of s kinds).kinds k r
  unfolding dot_count view_of view_with
  count_is k r =
      let a = sides-are s ink kinds R in
      sym (count-length (listed (words_frame s) (words_kinds s kinds) k r) (get_or s 1 0 * get_or s 2 0))
      ∙ (λ i. length (keep (listed (frame_here i) (kinds-here i) k r) (upto ((a.4 ∙ sym page-w-is) i * (a.5 ∙ sym page-h-is) i))))

  list-is : (k : ℕ) (r : Rect) → dot_list (words_frame s) (words_kinds s kinds) k r ≡ dot_list (view_of s kinds).frame (view_of s kinds).kinds k r
  unfolding view_of view_with
  list-is k r = λ i. dot_list (frame_here i) (kinds-here i) k r

  twice : (w : ℕ) (l : List ℕ) → length (columns_and_rows w l) ≡ 2 * length l
  unfolding columns_and_rows
  twice w [] = refl
  twice w (a ∷ l) = let e = twice w l in omega arith

  list-long : (k : ℕ) (r : Rect) → length (dot_list (view_of s kinds).frame (view_of s kinds).kinds k r) ≡ 2 * dot_count (view_of s kinds).frame (view_of s kinds).kinds k r
  unfolding dot_list dot_count
  list-long k r = twice _ _

  bad-is : (k : ℕ) (r : Rect) (b : Bool) → b ≡ (not (ltb 0 k && leb k 5) || not (leb r.x0 r.x1 && ltb r.x1 (get_or s 3 0) && leb r.y0 r.y1 && ltb r.y1 (get_or s 4 0)))
      → b ≡ bad_dots (view_of s kinds).frame k r
  unfolding view_of view_with
  bad-is k r b e =
      let a = sides-are s ink kinds R in
      e ∙ (λ i. not (ltb 0 k && leb k 5) || not (leb r.x0 r.x1 && ltb r.x1 (a.1 i) && leb r.y0 r.y1 && ltb r.y1 (a.2 i)))

  module _ (k : ℕ) (r : Rect) (b : Bool) (eb : b ≡ (not (ltb 0 k && leb k 5) || not (leb r.x0 r.x1 && ltb r.x1 (get_or s 3 0) && leb r.y0 r.y1 && ltb r.y1 (get_or s 4 0))))
      (n : ℕ) (en : n ≡ result_refusal (length s) (length ink) (length kinds) (held s) false (results_spoiled s ink kinds) false false) (gn : n ≡ 0) where
    first : (x y : Bool) → (not x || y) ≡ false → x ≡ true
    first true y e = refl
    first false y e = absurd (true≢false e)

    -- a kind is a byte
    pub kind-low : b ≡ false → k ≤ 5
    kind-low g = leb-true k 5 (and_right (ltb 0 k) (leb k 5) (first (ltb 0 k && leb k 5) _ (sym eb ∙ g)))

    pub count-bad : b ≡ true → told 8 0 none ≡ result_told (ResultReading.count_dots k r) s ink kinds
    unfolding refuse_if
    count-bad g = told-late (ResultReading.count_dots k r) s ink kinds n en gn 8 (sym (rw (sym (bad-is k r b eb) ∙ g))) (λ z. omega arith)

    pub count-done : b ≡ false → (m : ℕ) → m ≡ count_if (listed (words_frame s) (words_kinds s kinds) k r) (get_or s 1 0 * get_or s 2 0) → told 0 m none ≡ result_told (ResultReading.count_dots k r) s ink kinds
    unfolding refuse_if
    count-done g m e =
        ap (λ z. told 0 z none) (e ∙ count_is k r) ∙ told-done (ResultReading.count_dots k r) s ink kinds n en gn (rw (sym (bad-is k r b eb) ∙ g))

    module _ (out : List ℕ) where
      pub dots-bad : b ≡ true → told 8 0 (words out) ≡ result_told (ResultReading.dots k r out) s ink kinds
      unfolding refuse_if
      dots-bad g = told-late (ResultReading.dots k r out) s ink kinds n en gn 8 (sym (rw (sym (bad-is k r b eb) ∙ g))) (λ z. omega arith)

      module _ (g : b ≡ false) (m : ℕ) (em : m ≡ count_if (listed (words_frame s) (words_kinds s kinds) k r) (get_or s 1 0 * get_or s 2 0)) where
        long : length (dot_list (view_of s kinds).frame (view_of s kinds).kinds k r) ≡ 2 * m
        long = list-long k r ∙ ap (λ z. 2 * z) (sym (em ∙ count_is k r))

        pub dots-short : length out < 2 * m → told 9 0 (words out) ≡ result_told (ResultReading.dots k r out) s ink kinds
        unfolding refuse_if
        dots-short h =
            told-late (ResultReading.dots k r out) s ink kinds n en gn 9
            (sym (rw (sym (bad-is k r b eb) ∙ g, lt-ltb (length out) (length (dot_list (view_of s kinds).frame (view_of s kinds).kinds k r)) (let l = long in omega arith)))) (λ z. omega arith)

        pub dots-room : 2 * m ≤ length out → 2 * count_if (listed (words_frame s) (words_kinds s kinds) k r) (get_or s 1 0 * get_or s 2 0) ≤ length out
        dots-room h = omega (arith, em)

        pub dots-done : 2 * m ≤ length out → (out' : List ℕ) → out' ≡ over (dot_list (words_frame s) (words_kinds s kinds) k r) out → told 0 m (words out') ≡ result_told (ResultReading.dots k r out) s ink kinds
        unfolding refuse_if
        dots-done h out' e =
            (λ i. told 0 ((em ∙ count_is k r) i) (words ((e ∙ ap (λ (z : List ℕ). over z out) (list-is k r)) i)))
            ∙ told-done (ResultReading.dots k r out) s ink kinds n en gn
            (rw (sym (bad-is k r b eb) ∙ g, le-ltb (length out) (length (dot_list (view_of s kinds).frame (view_of s kinds).kinds k r)) (let l = long in omega arith)))

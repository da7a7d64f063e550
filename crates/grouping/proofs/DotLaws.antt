-- The dots listed of a row.
use mathlib.Core.Path.{◌≡◌, refl, sym, ap, ◌∙◌}
use mathlib.Core.Bool.{Bool, true, false, cond}
use mathlib.Core.List.{List, [], ◌∷◌, ◌++◌}
use Prim.Native.Nat.{ℕ, suc, ◌+◌, ◌-◌, ◌*◌, ◌/◌, ◌%◌, ◌≤◌, ◌<◌}
use native.Mathlib.Nat.{suc-mul, mul_comm, mul-le-mul_right, mul-le-mul, mod-lt, div-add-mod', div-lt_iff_lt-mul, le-div_iff_mul-le}
use native.Mathlib.Omega.{arith}
use native.Mathlib.Numerals.{add-one}
use lib.ListN.{get_or, length, drop, length-append, length-drop}
use lib.Seq.{sets}
use lib.Dec.{eqb}
use Rattle.memory.specs.rules.Lists.{table, count_if, keep, upto}
use Rattle.memory.specs.rules.Words.{over}
use Rattle.memory.specs.rules.Records.{encoded}
use Rattle.memory.proofs.BoolLaws.{and_right}
use Rattle.memory.proofs.RecordLaws.{length-encoded, record-more}
use Rattle.memory.specs.declared.rect.Rect.{Rect}
use Rattle.levelling.specs.rules.Frames.{Frame, row_of, column_of}
use Rattle.grouping.specs.rules.Readings.{in_box, listed, columns_and_rows, dot_list}
use Rattle.grouping.specs.stages.Dots.{listed_at, RowSpan, ColumnSpan}
use Rattle.memory.proofs.ListLaws.{keep-snoc-yes, keep-snoc-no, upto-suc, keep-few}
use Rattle.memory.proofs.PlaceLaws.{count-length, count-below, Gap, keep-gap}
use Rattle.memory.proofs.PlaneLaws.{dot-column, dot-row, dot-inside}

-- dot y * w + c of the page
pub listed-dot : (f : Frame) (kinds : List ℕ) (k : ℕ) (r : Rect) (c y : ℕ) → c < f.page_w → listed f kinds k r (y * f.page_w + c) ≡ listed_at f kinds k r c y
unfolding listed
listed-dot f kinds k r c y h = λ i. listed_at f kinds k r (dot-column f.page_w c y h i) (dot-row f.page_w c y h i)

-- one dot more is counted
pub count-dot : (f : Frame) (kinds : List ℕ) (k : ℕ) (r : Rect) (c y m t : ℕ) → c < f.page_w → m ≡ count_if (listed f kinds k r) (y * f.page_w + c)
    → t ≡ cond (listed_at f kinds k r c y) 1 0 → m + t ≡ count_if (listed f kinds k r) (y * f.page_w + (c + 1))
unfolding count_if
count-dot f kinds k r c y m t h em et =
    let z : y * f.page_w + (c + 1) ≡ suc (y * f.page_w + c) = omega arith in
    (λ i. em i + (et ∙ ap (λ b. cond b 1 0) (sym (listed-dot f kinds k r c y h))) i) ∙ sym (ap (count_if (listed f kinds k r)) z)

pub count-few : (p : ℕ → Bool) (n : ℕ) → count_if p n ≤ n
count-few p n = let a = count-length p n in let b = keep-few p n in omega arith

-- a row's end is the next row's start
pub row_next : (y w : ℕ) → y * w + w ≡ (y + 1) * w
row_next y w = sym (ap (λ k. k * w) (add-one y) ∙ suc-mul y w)

-- The list in lent words

dot_record : ℕ → ℕ → List ℕ
dot_record w i = i % w ∷ i / w ∷ []

two-words : (w i : ℕ) → length (dot_record w i) ≡ 2
unfolding dot_record
two-words w i = refl

dots-encoded : (w : ℕ) (l : List ℕ) → encoded (dot_record w) l ≡ columns_and_rows w l
unfolding encoded columns_and_rows dot_record
dots-encoded w [] = refl
dots-encoded w (i ∷ l) = ap (λ (t : List ℕ). i % w ∷ i / w ∷ t) (dots-encoded w l)

dots-length : (w : ℕ) (l : List ℕ) → length (columns_and_rows w l) ≡ length l * 2
dots-length w l = ap length (sym (dots-encoded w l)) ∙ length-encoded (dot_record w) 2 (two-words w) l

-- one dot more is written
dot-more : (w c y n : ℕ) (l s out : List ℕ) → c < w → n ≡ length l → 2 * n + 2 ≤ length s → out ≡ over (columns_and_rows w l) s
    → sets out (2 * n) (c ∷ y ∷ []) ≡ over (columns_and_rows w (l ++ ((y * w + c) ∷ []))) s
unfolding dot_record
dot-more w c y n l s out h e room k =
    (λ i. sets ((k ∙ ap (λ (t : List ℕ). over t s) (sym (dots-encoded w l))) i) (2 * n) (sym (dot-column w c y h) i ∷ sym (dot-row w c y h) i ∷ []))
    ∙ (record-more (dot_record w) 2 (two-words w) l (y * w + c) s (2 * n) (let a = length-encoded (dot_record w) 2 (two-words w) l in omega arith) room
    ∙ ap (λ (t : List ℕ). over t s) (dots-encoded w (l ++ ((y * w + c) ∷ []))))

module _ (f : Frame) (kinds : List ℕ) (k : ℕ) (r : Rect) where
  pub dots-start : (s : List ℕ) → s ≡ over (columns_and_rows f.page_w (keep (listed f kinds k r) (upto 0))) s
  unfolding columns_and_rows keep upto table
  dots-start s = refl

  module _ (c y : ℕ) (h : c < f.page_w) where
    next : y * f.page_w + (c + 1) ≡ suc (y * f.page_w + c)
    next = omega arith

    dots-room : (n : ℕ) (s out : List ℕ) → n ≡ count_if (listed f kinds k r) (y * f.page_w + c) → 2 * n + 2 ≤ length out
        → out ≡ over (columns_and_rows f.page_w (keep (listed f kinds k r) (upto (y * f.page_w + c)))) s → 2 * n + 2 ≤ length s
    dots-room n s out en room ko =
        let l : List ℕ = keep (listed f kinds k r) (upto (y * f.page_w + c)) in
        let a = dots-length f.page_w l in
        let b = count-length (listed f kinds k r) (y * f.page_w + c) in
        let e = ap length ko ∙ length-append (columns_and_rows f.page_w l) (drop (length (columns_and_rows f.page_w l)) s) in
        let g = length-drop (length (columns_and_rows f.page_w l)) s in
        omega arith

    pub dots-yes : (n : ℕ) (s out : List ℕ) → listed_at f kinds k r c y ≡ true → n ≡ count_if (listed f kinds k r) (y * f.page_w + c) → 2 * n + 2 ≤ length out
        → out ≡ over (columns_and_rows f.page_w (keep (listed f kinds k r) (upto (y * f.page_w + c)))) s
        → sets out (2 * n) (c ∷ y ∷ []) ≡ over (columns_and_rows f.page_w (keep (listed f kinds k r) (upto (y * f.page_w + (c + 1))))) s
    dots-yes n s out e en room ko =
        let i : ℕ = y * f.page_w + c in
        let more : keep (listed f kinds k r) (upto (y * f.page_w + (c + 1))) ≡ keep (listed f kinds k r) (upto i) ++ (i ∷ []) =
        ap (λ j. keep (listed f kinds k r) (upto j)) next ∙ (ap (keep (listed f kinds k r)) (upto-suc i) ∙ keep-snoc-yes (listed f kinds k r) (upto i) i (listed-dot f kinds k r c y h ∙ e)) in
        dot-more f.page_w c y n (keep (listed f kinds k r) (upto i)) s out h (en ∙ sym (count-length (listed f kinds k r) i)) (dots-room n s out en room ko) ko
        ∙ ap (λ (t : List ℕ). over (columns_and_rows f.page_w t) s) (sym more)

    pub dots-no : (s out : List ℕ) → listed_at f kinds k r c y ≡ false
        → out ≡ over (columns_and_rows f.page_w (keep (listed f kinds k r) (upto (y * f.page_w + c)))) s
        → out ≡ over (columns_and_rows f.page_w (keep (listed f kinds k r) (upto (y * f.page_w + (c + 1))))) s
    dots-no s out e ko =
        let i : ℕ = y * f.page_w + c in
        let same : keep (listed f kinds k r) (upto (y * f.page_w + (c + 1))) ≡ keep (listed f kinds k r) (upto i) =
        ap (λ j. keep (listed f kinds k r) (upto j)) next ∙ (ap (keep (listed f kinds k r)) (upto-suc i) ∙ keep-snoc-no (listed f kinds k r) (upto i) i (listed-dot f kinds k r c y h ∙ e)) in
        ko ∙ ap (λ (t : List ℕ). over (columns_and_rows f.page_w t) s) (sym same)

    -- there is room for a dot that is listed
    pub dot-room : y < f.page_h → listed_at f kinds k r c y ≡ true → count_if (listed f kinds k r) (y * f.page_w + c) < count_if (listed f kinds k r) (f.page_w * f.page_h)
    dot-room l e = count-below (listed f kinds k r) (y * f.page_w + c) (f.page_w * f.page_h) (dot-inside f.page_w f.page_h c y h l) (listed-dot f kinds k r c y h ∙ e)

    pub count-dot-yes : (n : ℕ) → listed_at f kinds k r c y ≡ true → n ≡ count_if (listed f kinds k r) (y * f.page_w + c) → n + 1 ≡ count_if (listed f kinds k r) (y * f.page_w + (c + 1))
    count-dot-yes n e en = count-dot f kinds k r c y n 1 h en (sym (ap (λ b. cond b 1 0) e))

    pub count-dot-no : (n : ℕ) → listed_at f kinds k r c y ≡ false → n ≡ count_if (listed f kinds k r) (y * f.page_w + c) → n ≡ count_if (listed f kinds k r) (y * f.page_w + (c + 1))
    count-dot-no n e en = (let z : n ≡ n + 0 = omega arith in z) ∙ count-dot f kinds k r c y n 0 h en (sym (ap (λ b. cond b 1 0) e))

  -- all dots
  pub dots-all : (s out : List ℕ) → out ≡ over (columns_and_rows f.page_w (keep (listed f kinds k r) (upto (f.page_w * f.page_h)))) s → out ≡ over (dot_list f kinds k r) s
  unfolding dot_list
  dots-all s out e = e

-- a page has fewer than 2^27 dots
pub dot-below : (y c w h : ℕ) → c < w → y < h → w ≤ 8192 → h ≤ 8192 → y * w + c < 67108864
dot-below y c w h lc ly lw lh =
    let a = dot-inside w h c y lc ly in
    let b : w * h ≤ 8192 * 8192 = mul-le-mul lw lh in
    omega arith

pub bit-at-most : (t : Bool) (n : ℕ) → n ≡ cond t 1 0 → n ≤ 1
bit-at-most true n e = omega arith
bit-at-most false n e = omega arith

pub count_none : (p : ℕ → Bool) → 0 ≡ count_if p 0
unfolding count_if
count_none p = refl

-- Outside the spans no dot is listed

unlisted : (f : Frame) (kinds : List ℕ) (k : ℕ) (r : Rect) (c y : ℕ) → c < f.page_w → (in_box r (column_of f c y) (row_of f c y) ≡ true → ⊥) → (i : ℕ) → i ≡ y * f.page_w + c → listed f kinds k r i ≡ false
unlisted f kinds k r c y l out i e = ap (listed f kinds k r) e ∙ (listed-dot f kinds k r c y l ∙ go (listed_at f kinds k r c y) refl)
  where
    go : (t : Bool) → listed_at f kinds k r c y ≡ t → t ≡ false
    go false o = refl
    go true o = absurd (out (and_right (eqb (get_or kinds (row_of f c y * f.w + column_of f c y) 0) k) (in_box r (column_of f c y) (row_of f c y)) o))

module _ {f : Frame} {r : Rect} (kinds : List ℕ) (k : ℕ) where
  -- in a page row before its columns, and from a place behind them on
  pub row-start : {y first end : ℕ} → ColumnSpan f r y first end → Gap (listed f kinds k r) (y * f.page_w) (y * f.page_w + first)
  row-start {y} {first} {end} s =
      record {
        ordered = omega arith;
        none = λ i l m.
            (let n = s.first_inside in
            let h : i - y * f.page_w < f.page_w = omega arith in
            unlisted f kinds k r (i - y * f.page_w) y h (λ e. (let a = s.holds (i - y * f.page_w) h e in omega arith)) i (omega arith));
      }

  pub row-end : {y first end : ℕ} → ColumnSpan f r y first end → (c : ℕ) → end ≤ c → c ≤ f.page_w → Gap (listed f kinds k r) (y * f.page_w + c) ((y + 1) * f.page_w)
  row-end {y} {first} {end} s c p q =
      let z = row_next y f.page_w in
      record {
        ordered = omega arith;
        none = λ i l m.
            (let h : i - y * f.page_w < f.page_w = omega arith in
            unlisted f kinds k r (i - y * f.page_w) y h (λ e. (let a = s.holds (i - y * f.page_w) h e in omega arith)) i (omega arith));
      }

  -- before the page rows, and from a row behind them on
  pub rows_start : {first last : ℕ} → RowSpan f r first last → 0 < f.page_w → Gap (listed f kinds k r) 0 (first * f.page_w)
  rows_start {first} {last} s some =
      record {
        ordered = omega arith;
        none = λ i l m.
            (let n = s.first_inside in
            let lc = mod-lt i some in
            let ly : i / f.page_w < first = (div-lt_iff_lt-mul some).1 m in
            unlisted f kinds k r (i % f.page_w) (i / f.page_w) lc (λ e. (let a = s.holds (i % f.page_w) (i / f.page_w) lc (omega arith) e in omega arith)) i (sym (div-add-mod' i f.page_w)));
      }

  pub rows_end : {first last : ℕ} → RowSpan f r first last → 0 < f.page_w → (y : ℕ) → last < y → y ≤ f.page_h → Gap (listed f kinds k r) (y * f.page_w) (f.page_w * f.page_h)
  rows_end {first} {last} s some y p q =
      let z = mul_comm f.page_h f.page_w in
      let o : y * f.page_w ≤ f.page_h * f.page_w = mul-le-mul_right f.page_w q in
      record {
        ordered = omega arith;
        none = λ i l m.
            (let lc = mod-lt i some in
            let ly : i / f.page_w < f.page_h = (div-lt_iff_lt-mul some).1 (omega arith) in
            let high : y ≤ i / f.page_w = (le-div_iff_mul-le some).1 l in
            unlisted f kinds k r (i % f.page_w) (i / f.page_w) lc (λ e. (let a = s.holds (i % f.page_w) (i / f.page_w) lc ly e in omega arith)) i (sym (div-add-mod' i f.page_w)));
      }

pub dots-gap : {p : ℕ → Bool} {a b : ℕ} (w : ℕ) (s out : List ℕ) → Gap p a b → out ≡ over (columns_and_rows w (keep p (upto a))) s → out ≡ over (columns_and_rows w (keep p (upto b))) s
dots-gap w s out g e = e ∙ ap (λ (l : List ℕ). over (columns_and_rows w l) s) (keep-gap g)

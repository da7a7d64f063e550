-- Levelling and mapping back are inverse on page dots ("a dot may be moved, never added or dropped"). For any frame record:
--   place-maps-back        each page dot's frame place maps back to it
--   mapped-point-is-place  a frame point that maps to a dot on the page is that dot's place
--   places-apart           two page dots never share a place
--   level_at-place          at a page dot's place lies the page's own dot
--   dots-at-their-places-is-levelled   a plane with each page dot at its place, and the fill elsewhere, is the levelled one
-- and for a frame that has room for every page dot, as `frame` has (frame-holds):
--   levelled-ink-count     the frame's ink dots and the mask's pair one to one, so their counts are equal
--   levelled-bits          a levelled mask holds only 0 and 1
use mathlib.Core.Path.{◌≡◌, refl, sym, ap, ◌∙◌, subst}
use mathlib.Core.List.{List}
use mathlib.Core.Bool.{Bool, true, false, cond, ◌&&◌}
use mathlib.Core.Logic.{◌⊎◌, inl, inr}
use Prim.Native.Nat.{ℕ, zero, suc, ◌+◌, ◌-◌, ◌*◌, ◌/◌, ◌%◌, ◌≤◌, ◌<◌, min}
use native.Mathlib.Nat.{le_refl, mod-lt, div-add-mod', div-lt_iff_lt-mul, mul_comm, zero-mul}
use native.Mathlib.Decide.{dec_lt}
use native.Mathlib.Omega.{arith}
use borrow.Author.Tests.{lt-ltb, le-ltb}
use lib.IntN.{ℤ, pos, negsuc, sub_ℕ}
use lib.Ieee.{Float}
use lib.ListN.{get_or, length, get_or-eq_default}
use lib.Seq.{ext_get_or}
use lib.Dec.{eqb, ltb, T, eqb→eq}
use Rattle.memory.specs.rules.Lists.{table, count_if, occurs}
use Rattle.memory.proofs.TableLaws.{length-table, get_or-table, get_or-default}
use Rattle.memory.proofs.CountLaws.{Paired, paired-counts, occurs-table, occurs-by-place}
use Rattle.memory.proofs.GreatestLaws.{greatest-bounds}
use Rattle.memory.proofs.PlaneLaws.{dot-column, dot-row, dot-inside}
use Rattle.levelling.specs.rules.Shears.{natural}
use Rattle.levelling.specs.rules.Frames.{Frame, frame, row_of, column_of}
use Rattle.levelling.specs.rules.Mapping.{to_page}
use Rattle.levelling.specs.rules.Planes.{within, level_at, levelled, level_ink}
use Rattle.levelling.specs.declared.Point.{Point}
use Rattle.levelling.proofs.Integers.{sub-added, sub-is-pos}

-- ---- for any frame record
pub place-maps-back : (f : Frame) (c y : ℕ) → c < f.page_w → to_page f (column_of f c y) (row_of f c y) ≡ record { x = pos c; y = pos y }
unfolding to_page column_of row_of
place-maps-back f c y l =
    let r = y + get_or f.shear c 0 in
    let s = get_or f.shear_x r 0 in
    let e : min (c + s - s) (f.page_w - 1) ≡ c = omega arith in
    λ i. record { x = sub-added c s i; y = (ap (λ k. sub_ℕ r (get_or f.shear k 0)) e ∙ sub-added y (get_or f.shear c 0)) i }

pub mapped-point-is-place : (f : Frame) (x y c r : ℕ) → c < f.page_w → to_page f x y ≡ record { x = pos c; y = pos r } → (column_of f c r ≡ x) × (row_of f c r ≡ y)
unfolding to_page column_of row_of
mapped-point-is-place f x y c r l e =
    let s = get_or f.shear_x y 0 in
    let a = sub-is-pos x s c (ap (λ (p : Point). p.x) e) in
    let m : min (x - s) (f.page_w - 1) ≡ c = omega (arith, a.1) in
    let b = sub-is-pos y (get_or f.shear c 0) r (sym (ap (λ k. sub_ℕ y (get_or f.shear k 0)) m) ∙ ap (λ (p : Point). p.y) e) in
    let row : r + get_or f.shear c 0 ≡ y = omega (arith, b.0, b.1) in
    let g : get_or f.shear_x (r + get_or f.shear c 0) 0 ≡ s = ap (λ k. get_or f.shear_x k 0) row in
    (omega (arith, g, a.0, a.1), row)

pub places-apart : (f : Frame) (c y c' y' : ℕ) → c < f.page_w → c' < f.page_w → column_of f c y ≡ column_of f c' y' → row_of f c y ≡ row_of f c' y' → (c ≡ c') × (y ≡ y')
places-apart f c y c' y' l l' ex ey =
    let q = sym (place-maps-back f c y l) ∙ ((λ t. to_page f (ex t) (ey t)) ∙ place-maps-back f c' y' l') in
    (ap (λ (p : Point). natural p.x) q, ap (λ (p : Point). natural p.y) q)

pub level_at-place : (f : Frame) (fill : ℕ) (page : List ℕ) (c y : ℕ) → c < f.page_w → y < f.page_h → level_at f fill page (column_of f c y) (row_of f c y) ≡ get_or page (y * f.page_w + c) fill
unfolding level_at
level_at-place f fill page c y lc ly = rw (place-maps-back f c y lc, lt-ltb c f.page_w lc, lt-ltb y f.page_h ly)

-- the page dot that a frame point maps to
pub record Source (f : Frame) (x y : ℕ) : Type 0 where
  pub c : ℕ
  pub r : ℕ
  pub c_in : c < f.page_w
  pub r_in : r < f.page_h
  pub point : to_page f x y ≡ record { x = pos c; y = pos r }
  pub value : (fill : ℕ) (page : List ℕ) → level_at f fill page x y ≡ get_or page (r * f.page_w + c) fill

-- at a frame point lies an added dot, or a page dot
pub added-or-source : (f : Frame) (x y : ℕ) → ((fill : ℕ) (page : List ℕ) → level_at f fill page x y ≡ fill) ⊎ Source f x y
unfolding level_at
added-or-source f x y = go (to_page f x y).x (to_page f x y).y refl refl
  where
    off : (t : Bool) → (t && false) ≡ false
    off true = refl
    off false = refl

    outside : (a b : ℤ) → (to_page f x y).x ≡ a → (to_page f x y).y ≡ b → (within f.page_w a && within f.page_h b) ≡ false → (fill : ℕ) (page : List ℕ) → level_at f fill page x y ≡ fill
    outside a b p q e fill page =
        (λ i. cond (within f.page_w (p i) && within f.page_h (q i)) (get_or page (natural (q i) * f.page_w + natural (p i)) fill) fill)
        ∙ ap (λ t. cond t (get_or page (natural b * f.page_w + natural a) fill) fill) e

    two : (c r : ℕ) → (to_page f x y).x ≡ pos c → (to_page f x y).y ≡ pos r → Dec (c < f.page_w) → Dec (r < f.page_h) → ((fill : ℕ) (page : List ℕ) → level_at f fill page x y ≡ fill) ⊎ Source f x y
    two c r a b (yes k) (yes l) =
        let p : to_page f x y ≡ record { x = pos c; y = pos r } = λ i. record { x = a i; y = b i } in
        inr record { c = c; r = r; c_in = k; r_in = l; point = p; value = λ fill page. rw (p, lt-ltb c f.page_w k, lt-ltb r f.page_h l) }
    two c r a b (yes k) (no l) = inl (outside (pos c) (pos r) a b (rw (lt-ltb c f.page_w k, le-ltb r f.page_h (omega arith))))
    two c r a b (no k) l = inl (outside (pos c) (pos r) a b (rw (le-ltb c f.page_w (omega arith))))

    go : (a b : ℤ) → (to_page f x y).x ≡ a → (to_page f x y).y ≡ b → ((fill : ℕ) (page : List ℕ) → level_at f fill page x y ≡ fill) ⊎ Source f x y
    go (pos c) (pos r) a b = two c r a b (dec_lt c f.page_w) (dec_lt r f.page_h)
    go (pos c) (negsuc r) a b = inl (outside (pos c) (negsuc r) a b (off (ltb c f.page_w)))
    go (negsuc c) z a b = inl (outside (negsuc c) z a b refl)

-- a plane of the frame's size that has each page dot at its place, and `fill` at every dot that is no page dot's place, is the levelled page
pub dots-at-their-places-is-levelled :
    (f : Frame) (fill : ℕ) (page plane : List ℕ) → length page ≡ f.page_w * f.page_h → length plane ≡ f.w * f.h
    → ((c y : ℕ) → c < f.page_w → y < f.page_h → get_or plane (row_of f c y * f.w + column_of f c y) 0 ≡ get_or page (y * f.page_w + c) 0)
    → ((x r : ℕ) → x < f.w → r < f.h → ((c y : ℕ) → c < f.page_w → y < f.page_h → column_of f c y ≡ x → row_of f c y ≡ r → ⊥) → get_or plane (r * f.w + x) 0 ≡ fill)
    → plane ≡ levelled f fill page
unfolding levelled
dots-at-their-places-is-levelled f fill page plane size room placed filled =
    ext_get_or 0 plane (levelled f fill page) (room ∙ sym (length-table _ (f.w * f.h)))
    (λ i l. (let k : i < f.w * f.h = omega arith in at i k (added-or-source f (i % f.w) (i / f.w)) ∙ sym (get_or-table _ (f.w * f.h) i 0 k)))
  where
    some : (w h i : ℕ) → i < w * h → 0 < w
    some zero h i l = absurd (let e = zero-mul h in omega arith)
    some (suc w) h i l = omega arith

    at : (i : ℕ) → i < f.w * f.h → ((fill : ℕ) (page : List ℕ) → level_at f fill page (i % f.w) (i / f.w) ≡ fill) ⊎ Source f (i % f.w) (i / f.w) → get_or plane i 0 ≡ level_at f fill page (i % f.w) (i / f.w)
    at i k (inl h) =
        let wide : 0 < f.w = some f.w f.h i k in
        sym (ap (λ n. get_or plane n 0) (div-add-mod' i f.w))
        ∙ (filled (i % f.w) (i / f.w) (mod-lt i wide) ((div-lt_iff_lt-mul wide).1 (subst (λ n. i < n) (mul_comm f.w f.h) k)) (λ c y lc ly ec er.
        let ones = table (λ _. 1) (suc (y * f.page_w + c)) in
        let e : ◌≡◌ {A = ℕ} 1 0 = sym (get_or-table (λ _. 1) (suc (y * f.page_w + c)) (y * f.page_w + c) 0 (le_refl (suc (y * f.page_w + c)))) ∙ (sym (level_at-place f 0 ones c y lc ly) ∙ ((λ t. level_at f 0 ones (ec t) (er t)) ∙ h 0 ones)) in
        omega arith)
        ∙ sym (h fill page))
    at i k (inr S) =
        let E = mapped-point-is-place f (i % f.w) (i / f.w) S.c S.r S.c_in S.point in
        let n = S.r * f.page_w + S.c in
        sym (ap (λ n. get_or plane n 0) ((λ t. E.1 t * f.w + E.0 t) ∙ div-add-mod' i f.w))
        ∙ (placed S.c S.r S.c_in S.r_in
        ∙ (get_or-default page n 0 fill (subst (λ m. n < m) (sym size) (dot-inside f.page_w f.page_h S.c S.r S.c_in S.r_in)) ∙ sym (S.value fill page)))

source : (f : Frame) (page : List ℕ) (x y : ℕ) → level_at f 0 page x y ≡ 1 → Source f x y
source f page x y e = go (added-or-source f x y)
  where
    go : ((fill : ℕ) (page : List ℕ) → level_at f fill page x y ≡ fill) ⊎ Source f x y → Source f x y
    go (inl h) = absurd (let z : ◌≡◌ {A = ℕ} 0 1 = sym (h 0 page) ∙ e in omega arith)
    go (inr S) = S

-- ---- for a frame that has room for every page dot
pub record HoldsPage (f : Frame) : Type 0 where
  pub row_inside : (c y : ℕ) → y < f.page_h → row_of f c y < f.h
  pub column_inside : (c y : ℕ) → c < f.page_w → column_of f c y < f.w

pub frame-holds : (w h : ℕ) (slope : Float) → HoldsPage (frame w h slope)
unfolding frame row_of column_of
frame-holds w h slope =
    let f = frame w h slope in
    record {
      row_inside = λ c y l. (let e = greatest-bounds f.shear c in omega arith);
      column_inside = λ c y l. (let e = greatest-bounds f.shear_x (row_of f c y) in omega arith);
    }

module _ (f : Frame) (holds : HoldsPage f) (mask : List ℕ) (wide : 0 < f.page_w) (size : length mask ≡ f.page_w * f.page_h) where
  abbrev w : ℕ
  w = f.page_w

  -- the number in the frame of dot j of the page
  place : ℕ → ℕ
  place j = row_of f (j % w) (j / w) * f.w + column_of f (j % w) (j / w)

  column-in : (j : ℕ) → j % w < w
  column-in j = mod-lt j wide

  row_in : (j : ℕ) → j < w * f.page_h → j / w < f.page_h
  row_in j l = (div-lt_iff_lt-mul wide).1 (subst (λ k. j < k) (mul_comm w f.page_h) l)

  place-x : (j : ℕ) → place j % f.w ≡ column_of f (j % w) (j / w)
  unfolding place
  place-x j = dot-column _ _ _ (holds.column_inside (j % w) (j / w) (column-in j))

  place-y : (j : ℕ) → place j / f.w ≡ row_of f (j % w) (j / w)
  unfolding place
  place-y j = dot-row _ _ _ (holds.column_inside (j % w) (j / w) (column-in j))

  place_inside : (j : ℕ) → j < w * f.page_h → place j < f.w * f.h
  unfolding place
  place_inside j l = dot-inside _ _ _ _ (holds.column_inside (j % w) (j / w) (column-in j)) (holds.row_inside (j % w) (j / w) (row_in j l))

  place-passes : (j : ℕ) → j < w * f.page_h → eqb (level_at f 0 mask (place j % f.w) (place j / f.w)) 1 ≡ eqb (get_or mask j 0) 1
  place-passes j l =
      (λ i. eqb (level_at f 0 mask (place-x j i) (place-y j i)) 1)
      ∙ ap (λ k. eqb k 1) (level_at-place f 0 mask (j % w) (j / w) (column-in j) (row_in j l) ∙ ap (λ k. get_or mask k 0) (div-add-mod' j w))

  is_one : (v : ℕ) → eqb v 1 ≡ true → v ≡ 1
  is_one v e = eqb→eq v 1 (subst T (sym e) tt)

  place-reached : (i : ℕ) → i < f.w * f.h → eqb (level_at f 0 mask (i % f.w) (i / f.w)) 1 ≡ true → (j : ℕ) × (j < w * f.page_h) × (place j ≡ i)
  unfolding place
  place-reached i l e =
      let S = source f mask (i % f.w) (i / f.w) (is_one _ e) in
      let E = mapped-point-is-place f (i % f.w) (i / f.w) S.c S.r S.c_in S.point in
      let j = S.r * w + S.c in
      let ex : j % w ≡ S.c = dot-column w S.c S.r S.c_in in
      let ey : j / w ≡ S.r = dot-row w S.c S.r S.c_in in
      (j, dot-inside w f.page_h S.c S.r S.c_in S.r_in, (λ t. row_of f (ex t) (ey t) * f.w + column_of f (ex t) (ey t)) ∙ ((λ t. E.1 t * f.w + E.0 t) ∙ div-add-mod' i f.w))

  place-apart : (j k : ℕ) → j < w * f.page_h → k < w * f.page_h → place j ≡ place k → j ≡ k
  place-apart j k lj lk e =
      let q =
      places-apart f (j % w) (j / w) (k % w) (k / w) (column-in j) (column-in k)
      (sym (place-x j) ∙ (ap (λ i. i % f.w) e ∙ place-x k))
      (sym (place-y j) ∙ (ap (λ i. i / f.w) e ∙ place-y k)) in
      sym (div-add-mod' j w) ∙ ((λ t. q.1 t * w + q.0 t) ∙ div-add-mod' k w)

  dots-paired : Paired place (λ j. eqb (get_or mask j 0) 1) (w * f.page_h) (λ i. eqb (level_at f 0 mask (i % f.w) (i / f.w)) 1) (f.w * f.h)
  dots-paired = record { inside = place_inside; passes = place-passes; reached = place-reached; apart = place-apart }

  pub levelled-ink-count : occurs 1 (level_ink f mask) ≡ occurs 1 mask
  unfolding levelled
  levelled-ink-count =
      occurs-table 1 _ (f.w * f.h)
      ∙ (paired-counts place _ (w * f.page_h) _ _ dots-paired ∙ (ap (count_if (λ j. eqb (get_or mask j 0) 1)) (sym size) ∙ sym (occurs-by-place 1 mask)))

-- ---- a levelled mask is a mask
pub length-levelled : (f : Frame) (fill : ℕ) (page : List ℕ) → length (levelled f fill page) ≡ f.w * f.h
unfolding levelled
length-levelled f fill page = length-table _ (f.w * f.h)

level-bit : (f : Frame) (page : List ℕ) → ((i : ℕ) → get_or page i 0 ≤ 1) → (x y : ℕ) → level_at f 0 page x y ≤ 1
unfolding level_at
level-bit f page h x y = go (within f.page_w (to_page f x y).x && within f.page_h (to_page f x y).y)
  where
    go : (b : Bool) → cond b (get_or page (natural (to_page f x y).y * f.page_w + natural (to_page f x y).x) 0) 0 ≤ 1
    go true = h _
    go false = omega arith

pub levelled-bits : (f : Frame) (mask : List ℕ) → ((i : ℕ) → get_or mask i 0 ≤ 1) → (i : ℕ) → get_or (level_ink f mask) i 0 ≤ 1
unfolding levelled
levelled-bits f mask h i = go (dec_lt i (f.w * f.h))
  where
    go : Dec (i < f.w * f.h) → get_or (levelled f 0 mask) i 0 ≤ 1
    go (yes l) = subst (λ v. v ≤ 1) (sym (get_or-table _ (f.w * f.h) i 0 l)) (level-bit f mask h (i % f.w) (i / f.w))
    go (no l) = subst (λ v. v ≤ 1) (sym (get_or-eq_default (levelled f 0 mask) 0 {n = i} (let e = length-levelled f 0 mask in omega arith))) (omega arith)

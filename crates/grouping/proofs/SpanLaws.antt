-- Where the page dots of a frame box lie, for shears that run one way:
--   frame-one-way      the frame of a page under a slope from -1 to 1 is such a frame
--   column-rises       along a page row the frame column never falls
--   row-span           the page rows of the box, from the shears at the ends of its sides
--   first-reached-low, first-reached-high    one step of the search in a page row
--   column-span        the page columns of the box, from two such searches
use mathlib.Core.Path.{◌≡◌, refl, sym, ap, ◌∙◌, subst}
use mathlib.Core.Bool.{Bool, true, false, not, cond, ◌&&◌, ◌||◌, true≢false}
use mathlib.Core.List.{List}
use Prim.Native.Nat.{ℕ, zero, suc, ◌+◌, ◌-◌, ◌≤◌, ◌<◌, min, max}
use native.Mathlib.Nat.{le_refl, le_trans}
use native.Mathlib.Decide.{ℕ_discrete, dec_lt}
use native.Mathlib.Omega.{arith}
use borrow.Author.Tests.{ltb-true, ltb-false, leb-true, lt-ltb, le-ltb, le-leb}
use lib.Dec.{ltb, leb}
use lib.Ieee.{Float}
use lib.ListN.{get_or, length}
use Rattle.memory.proofs.BoolLaws.{and_left, and_right}
use Rattle.rounding.specs.rules.Drift.{WithinOne}
use Rattle.rounding.proofs.Signs.{negative}
use Rattle.memory.specs.declared.rect.Rect.{Rect}
use Rattle.levelling.specs.rules.Frames.{Frame, PageSides, frame, row_of, column_of}
use Rattle.levelling.proofs.ShearLaws.{Steps}
use Rattle.levelling.proofs.FrameLaws.{shear-steps, shear-x-steps, length-shears}
use Rattle.grouping.specs.rules.Readings.{in_box}
use Rattle.grouping.specs.stages.Dots.{Step, FrameWords, OneWay, Sheared, RowSpan, ColumnSpan, is_short, FirstReached}

-- ---- the frame of a page
steps_of : (s : Bool) (l : List ℕ) → Steps s l → (i : ℕ) → suc i < length l → Step s (get_or l i 0) (get_or l (suc i) 0)
steps_of false l h i k = let a = h i k in (omega arith, omega arith)
steps_of true l h i k = let a = h i k in (omega arith, omega arith)

pub frame-one-way : (w h : ℕ) (slope : Float) → PageSides w h → WithinOne slope → OneWay (frame w h slope)
frame-one-way w h slope sides one =
    record {
      some_column = unfold frame in sides.wide;
      some_row = unfold frame in sides.high;
      falls = negative slope;
      rows = λ c l. steps_of (negative slope) (frame w h slope).shear (shear-steps w h slope sides one) c (let e = (length-shears w h slope sides one).0 in let z : (frame w h slope).page_w ≡ w = (unfold frame in refl) in omega arith);
      columns = λ y l. steps_of (not (negative slope)) (frame w h slope).shear_x (shear-x-steps w h slope sides one) y (let e = (length-shears w h slope sides one).1 in omega arith);
    }

-- what the search asks, from what the list asks
pub sheared : {f : Frame} {kinds : List ℕ} → FrameWords f kinds → OneWay f → Sheared f
sheared w o =
    record {
      page_wide = w.page_wide;
      page_high = w.page_high;
      wide = w.wide;
      high = w.high;
      shears = w.shears;
      rows = w.rows;
      row_inside = w.row_inside;
      column_inside = w.column_inside;
      one_way = o;
    }

-- ---- tables that run one way
-- b lies where the way from a leads
abbrev Along : Bool → ℕ → ℕ → Type 0
Along false a b = a ≤ b
Along true a b = b ≤ a

along-same : (s : Bool) (a : ℕ) → Along s a a
along-same false a = le_refl a
along-same true a = le_refl a

along-more : (s : Bool) (a b c : ℕ) → Along s a b → Along s b c → Along s a c
along-more false a b c p q = le_trans p q
along-more true a b c p q = le_trans q p

step-along : (s : Bool) (a b : ℕ) → Step s a b → Along s a b
step-along false a b h = h.0
step-along true a b h = h.0

runs : (s : Bool) (g : ℕ → ℕ) (n : ℕ) → ((i : ℕ) → suc i < n → Along s (g i) (g (suc i))) → (a b : ℕ) → a ≤ b → b < n → Along s (g a) (g b)
runs s g n step a zero l k = subst (λ i. Along s (g a) (g i)) (let e : a ≡ 0 = omega arith in e) (along-same s (g a))
runs s g n step a (suc b) l k = go (λ m. runs s g n step a b m (omega arith)) (ℕ_discrete a (suc b))
  where
    go : (a ≤ b → Along s (g a) (g b)) → Dec (a ≡ suc b) → Along s (g a) (g (suc b))
    go ih (yes e) = subst (λ i. Along s (g a) (g i)) e (along-same s (g a))
    go ih (no ne) = along-more s (g a) (g b) (g (suc b)) (ih (omega arith)) (step b k)

-- between two entries lies no lesser and no greater one
along-between : (s : Bool) (p v q : ℕ) → Along s p v → Along s v q → (min p q ≤ v) × (v ≤ max p q)
along-between false p v q a b = (omega arith, omega arith)
along-between true p v q a b = (omega arith, omega arith)

between : (s : Bool) (l : List ℕ) (n : ℕ) → ((i : ℕ) → suc i < n → Step s (get_or l i 0) (get_or l (suc i) 0)) → (a i b p q : ℕ) → a ≤ i → i ≤ b → b < n
    → p ≡ min (get_or l a 0) (get_or l b 0) → q ≡ max (get_or l a 0) (get_or l b 0) → (p ≤ get_or l i 0) × (get_or l i 0 ≤ q)
between s l n step a i b p q la lb k ep eq =
    let g : ℕ → ℕ = λ j. get_or l j 0 in
    let way : (j : ℕ) → suc j < n → Along s (g j) (g (suc j)) = λ j m. step-along s (g j) (g (suc j)) (step j m) in
    let h = along-between s (g a) (g i) (g b) (runs s g n way a i la (omega arith)) (runs s g n way i b lb k) in
    (subst (λ v. v ≤ g i) (sym ep) h.0, subst (λ v. g i ≤ v) (sym eq) h.1)

-- ---- a point in the box
in-box : (r : Rect) (x y : ℕ) → in_box r x y ≡ true → (r.x0 ≤ x) × (x ≤ r.x1) × (r.y0 ≤ y) × (y ≤ r.y1)
in-box r x y e = go (leb r.x0 x) (leb x r.x1) (leb r.y0 y) (leb y r.y1) refl refl refl refl e
  where
    go : (a b c d : Bool) → leb r.x0 x ≡ a → leb x r.x1 ≡ b → leb r.y0 y ≡ c → leb y r.y1 ≡ d → (a && b && c && d) ≡ true → (r.x0 ≤ x) × (x ≤ r.x1) × (r.y0 ≤ y) × (y ≤ r.y1)
    go true true true true ea eb ec ed e = (leb-true _ _ ea, leb-true _ _ eb, leb-true _ _ ec, leb-true _ _ ed)
    go true true true false ea eb ec ed e = absurd (true≢false (sym e))
    go true true false d ea eb ec ed e = absurd (true≢false (sym e))
    go true false c d ea eb ec ed e = absurd (true≢false (sym e))
    go false b c d ea eb ec ed e = absurd (true≢false (sym e))

-- ---- the page rows of the box
-- a number cut to those below n
cut_inside : (x a n : ℕ) → 0 < n → x ≡ min a (n - 1) → x < n
cut_inside x a n l e = omega arith

cut-first : (x a n v : ℕ) → x ≡ min a (n - 1) → a ≤ v → x ≤ v
cut-first x a n v e l = omega arith

cut-last : (x a n v : ℕ) → x ≡ min a (n - 1) → v ≤ a → v < n → v ≤ x
cut-last x a n v e l k = omega arith

-- the places below n from which a move by s leads to between low and high
places : (low high p q n v s first last : ℕ) → p ≤ s → s ≤ q → v < n → low ≤ v + s → v + s ≤ high → first ≡ min (low - q) (n - 1) → last ≡ min (high - p) (n - 1) → (first ≤ v) × (v ≤ last)
places low high p q n v s first last a b c d e ef el = (cut-first first (low - q) n v ef (under low q v s b d), cut-last last (high - p) n v el (over high p v s a e) c)
  where
    under : (low q v s : ℕ) → s ≤ q → low ≤ v + s → low - q ≤ v
    under low q v s b d = omega arith

    over : (high p v s : ℕ) → p ≤ s → v + s ≤ high → v ≤ high - p
    over high p v s a e = omega arith

module _ {f : Frame} (v : Sheared f) where
  -- `top` and `bottom` are the box's rows cut to the frame, from a to b the column moves there, from p to q the row moves at the ends of
  -- the columns that these leave
  pub row-span : {r : Rect} {top bottom a b left right p q first last : ℕ} → top ≡ min r.y0 (f.h - 1) → bottom ≡ min r.y1 (f.h - 1)
      → a ≡ min (get_or f.shear_x top 0) (get_or f.shear_x bottom 0) → b ≡ max (get_or f.shear_x top 0) (get_or f.shear_x bottom 0)
      → left ≡ min (r.x0 - b) (f.page_w - 1) → right ≡ min (r.x1 - a) (f.page_w - 1)
      → p ≡ min (get_or f.shear left 0) (get_or f.shear right 0) → q ≡ max (get_or f.shear left 0) (get_or f.shear right 0)
      → first ≡ min (r.y0 - q) (f.page_h - 1) → last ≡ min (r.y1 - p) (f.page_h - 1) → RowSpan f r first last
  unfolding row_of column_of
  row-span {r} {top} {bottom} {a} {b} {left} {right} {p} {q} {first} {last} et eb ea ee el er ep eq ef en =
      record {
        first_inside = cut_inside first (r.y0 - q) f.page_h v.one_way.some_row ef;
        last_inside = cut_inside last (r.y1 - p) f.page_h v.one_way.some_row en;
        holds = λ c y lc ly e. (
            let row : ℕ = y + get_or f.shear c 0 in
            let low : row < f.h = v.row_inside c y lc ly in
            let i = in-box r (c + get_or f.shear_x row 0) row e in
            let m = between (not v.one_way.falls) f.shear_x f.h v.one_way.columns top row bottom a b (cut-first top r.y0 f.h row et i.2) (cut-last bottom r.y1 f.h row eb i.3 low) (cut_inside bottom r.y1 f.h (some row f.h low) eb) ea ee in
            let n = places r.x0 r.x1 a b f.page_w c (get_or f.shear_x row 0) left right m.0 m.1 lc i.0 i.1 el er in
            let s = between v.one_way.falls f.shear f.page_w v.one_way.rows left c right p q n.0 n.1 (cut_inside right (r.x1 - a) f.page_w v.one_way.some_column er) ep eq in
            places r.y0 r.y1 p q f.page_h y (get_or f.shear c 0) first last s.0 s.1 ly i.2 i.3 ef en);
      }
    where
      some : (a b : ℕ) → a < b → 0 < b
      some a b l = omega arith

-- ---- along a page row
module _ {f : Frame} (v : Sheared f) where
  column-step : (c y : ℕ) → suc c < f.page_w → y < f.page_h → column_of f c y ≤ column_of f (suc c) y
  unfolding row_of column_of
  column-step c y lc ly =
      go v.one_way.falls (v.one_way.rows c lc) v.one_way.columns (v.row_inside c y (omega arith) ly) (v.row_inside (suc c) y lc ly) (ℕ_discrete (get_or f.shear c 0) (get_or f.shear (suc c) 0))
    where
      S : ℕ → ℕ
      S i = get_or f.shear i 0

      M : ℕ → ℕ
      M i = get_or f.shear_x i 0

      go : (s : Bool) → Step s (S c) (S (suc c)) → ((i : ℕ) → suc i < f.h → Step (not s) (M i) (M (suc i))) → y + S c < f.h → y + S (suc c) < f.h → Dec (S c ≡ S (suc c))
          → c + M (y + S c) ≤ suc c + M (y + S (suc c))
      go s step more low next (yes e) = let z : M (y + S c) ≡ M (y + S (suc c)) = ap (λ i. M (y + i)) e in omega arith
      go false step more low next (no ne) =
          let z : y + S (suc c) ≡ suc (y + S c) = omega arith in
          let k = more (y + S c) (omega arith) in
          let m : M (y + S (suc c)) ≡ M (suc (y + S c)) = ap M z in
          omega arith
      go true step more low next (no ne) =
          let z : y + S c ≡ suc (y + S (suc c)) = omega arith in
          let k = more (y + S (suc c)) (omega arith) in
          let m : M (y + S c) ≡ M (suc (y + S (suc c))) = ap M z in
          omega arith

  pub column-rises : (y a b : ℕ) → y < f.page_h → a ≤ b → b < f.page_w → column_of f a y ≤ column_of f b y
  column-rises y a b ly = runs false (λ c. column_of f c y) f.page_w (λ c l. column-step c y l ly) a b

  -- the way of the shear, as its two ends tell it
  row-runs : (falls : Bool) → falls ≡ ltb (get_or f.shear (f.page_w - 1) 0) (get_or f.shear 0 0) → (y a b : ℕ) → a ≤ b → b < f.page_w → Along falls (row_of f a y) (row_of f b y)
  unfolding row_of
  row-runs falls e y a b l k = lift falls (go v.one_way.falls falls (λ i j m n. runs v.one_way.falls S f.page_w (λ i o. step-along v.one_way.falls (S i) (S (suc i)) (v.one_way.rows i o)) i j m n) (sym e))
    where
      S : ℕ → ℕ
      S i = get_or f.shear i 0

      lift : (s : Bool) → Along s (S a) (S b) → Along s (y + S a) (y + S b)
      lift false h = omega arith
      lift true h = omega arith

      go : (s t : Bool) → ((i j : ℕ) → i ≤ j → j < f.page_w → Along s (S i) (S j)) → ltb (S (f.page_w - 1)) (S 0) ≡ t → Along t (S a) (S b)
      go false false way o = way a b l k
      go true true way o = way a b l k
      go false true way o = let x = way 0 (f.page_w - 1) (omega arith) (omega arith) in let z = ltb-true (S (f.page_w - 1)) (S 0) o in omega arith
      go true false way o =
          let x = way 0 a (omega arith) (omega arith) in
          let z = way b (f.page_w - 1) (omega arith) (omega arith) in
          let n = ltb-false (S (f.page_w - 1)) (S 0) o in
          omega arith

-- the frame place of a page dot, s and t the moves that were read
pub record Point (f : Frame) (c y row column : ℕ) : Type 0 where
  pub row_is : row ≡ row_of f c y
  pub column-is : column ≡ column_of f c y
  pub row_low : row ≤ 16383
  pub column-low : column ≤ 24574

module _ {f : Frame} (v : Sheared f) where
  pub row_read : {s : ℕ} (c y : ℕ) → c < f.page_w → y < f.page_h → s ≡ get_or f.shear c 0 → (y + s ≤ 16383) × (y + s < length f.shear_x)
  unfolding row_of
  row_read c y lc ly e = let a = v.row_inside c y lc ly in let b = v.high in let d = v.rows in (omega arith, omega arith)

  pub point : {s t : ℕ} (c y : ℕ) → c < f.page_w → y < f.page_h → s ≡ get_or f.shear c 0 → t ≡ get_or f.shear_x (y + s) 0 → Point f c y (y + s) (c + t)
  unfolding row_of column_of
  point {s} {t} c y lc ly es et =
      let ec : c + t ≡ column_of f c y = ap (λ k. c + k) (et ∙ ap (λ k. get_or f.shear_x (y + k) 0) es) in
      record {
        row_is = ap (λ k. y + k) es;
        column-is = ec;
        row_low = (row_read c y lc ly es).0;
        column-low = (let a = v.column_inside c y lc ly in let b = v.wide in omega arith);
      }

  some-height : 0 < f.h
  some-height = let a = v.row_inside 0 0 v.one_way.some_column v.one_way.some_row in omega arith

pub short-same : (r : Rect) (x y : ℕ) {falls start f s : Bool} → falls ≡ f → start ≡ s → is_short r f s x y ≡ is_short r falls start x y
short-same r x y ef es = λ i. is_short r (sym ef i) (sym es i) x y

pub short-there : (f : Frame) (c y : ℕ) {row column : ℕ} {t : Bool} (r : Rect) (falls start : Bool) → column ≡ column_of f c y → row ≡ row_of f c y → t ≡ is_short r falls start column row
    → t ≡ is_short r falls start (column_of f c y) (row_of f c y)
short-there f c y r falls start ec er e = e ∙ (λ i. is_short r falls start (ec i) (er i))

-- ---- what is short at a place is short before it
or-more : (a b c d : Bool) → (a ≡ true → c ≡ true) → (b ≡ true → d ≡ true) → (a || b) ≡ true → (c || d) ≡ true
or-more true b c d p q e = ap (λ t. t || d) (p refl)
or-more false b true d p q e = refl
or-more false b false d p q e = q e

and-more : (a b c d : Bool) → (a ≡ true → c ≡ true) → (b ≡ true → d ≡ true) → (a && b) ≡ true → (c && d) ≡ true
and-more a b c d p q e = ap (λ t. t && d) (p (and_left a b e)) ∙ q (and_right a b e)

ltb-more : (a b c d : ℕ) → c ≤ a → b ≤ d → ltb a b ≡ true → ltb c d ≡ true
ltb-more a b c d p q e = let z = ltb-true a b e in lt-ltb c d (omega arith)

leb-more : (a b c d : ℕ) → c ≤ a → b ≤ d → leb a b ≡ true → leb c d ≡ true
leb-more a b c d p q e = let z = leb-true a b e in le-leb c d (omega arith)

short-before : (r : Rect) (falls start : Bool) (x y u w : ℕ) → x ≤ u → Along falls y w → is_short r falls start u w ≡ true → is_short r falls start x y ≡ true
unfolding is_short
short-before r true true x y u w p q = or-more (ltb u r.x0) (ltb r.y1 w) (ltb x r.x0) (ltb r.y1 y) (ltb-more u r.x0 x r.x0 p (le_refl _)) (ltb-more r.y1 w r.y1 y (le_refl _) q)
short-before r false true x y u w p q = or-more (ltb u r.x0) (ltb w r.y0) (ltb x r.x0) (ltb y r.y0) (ltb-more u r.x0 x r.x0 p (le_refl _)) (ltb-more w r.y0 y r.y0 q (le_refl _))
short-before r true false x y u w p q = and-more (leb u r.x1) (leb r.y0 w) (leb x r.x1) (leb r.y0 y) (leb-more u r.x1 x r.x1 p (le_refl _)) (leb-more r.y0 w r.y0 y (le_refl _) q)
short-before r false false x y u w p q = and-more (leb u r.x1) (leb w r.y1) (leb x r.x1) (leb y r.y1) (leb-more u r.x1 x r.x1 p (le_refl _)) (leb-more w r.y1 y r.y1 q (le_refl _))

-- a point in the box is no longer before it, and not yet past it
box-not-short : (r : Rect) (falls : Bool) (x y : ℕ) → in_box r x y ≡ true → (is_short r falls true x y ≡ false) × (is_short r falls false x y ≡ true)
unfolding is_short
box-not-short r falls x y e = let i = in-box r x y e in go falls i.0 i.1 i.2 i.3
  where
    go : (s : Bool) → r.x0 ≤ x → x ≤ r.x1 → r.y0 ≤ y → y ≤ r.y1
        → ((ltb x r.x0 || cond s (ltb r.y1 y) (ltb y r.y0)) ≡ false) × ((leb x r.x1 && cond s (leb r.y0 y) (leb y r.y1)) ≡ true)
    go true a b c d = (rw (le-ltb x r.x0 a) (le-ltb r.y1 y d), rw (le-leb x r.x1 b) (le-leb r.y0 y c))
    go false a b c d = (rw (le-ltb x r.x0 a) (le-ltb y r.y0 c), rw (le-leb x r.x1 b) (le-leb y r.y1 d))

module _ {f : Frame} (v : Sheared f) (r : Rect) (falls start : Bool) (way : falls ≡ ltb (get_or f.shear (f.page_w - 1) 0) (get_or f.shear 0 0)) (y : ℕ) (ly : y < f.page_h) where
  -- one step of the search
  pub first-reached-low : (m : ℕ) → m < f.page_w → is_short r falls start (column_of f m y) (row_of f m y) ≡ true → (c : ℕ) → c < m + 1 → is_short r falls start (column_of f c y) (row_of f c y) ≡ true
  first-reached-low m lm e c l =
      short-before r falls start (column_of f c y) (row_of f c y) (column_of f m y) (row_of f m y) (column-rises v y c m ly (omega arith) lm) (row-runs v falls way y c m (omega arith) lm) e

  pub first-reached-high : (m : ℕ) → is_short r falls start (column_of f m y) (row_of f m y) ≡ false → (c : ℕ) → m ≤ c → c < f.page_w → is_short r falls start (column_of f c y) (row_of f c y) ≡ false
  first-reached-high m e c l k = go (is_short r falls start (column_of f c y) (row_of f c y)) refl
    where
      go : (t : Bool) → is_short r falls start (column_of f c y) (row_of f c y) ≡ t → t ≡ false
      go false o = refl
      go true o = absurd (true≢false (sym (first-reached-low c k o m (omega arith)) ∙ e))

-- the columns from where the row is in the box up to where it is past it
pub column-span : {f : Frame} {r : Rect} {falls : Bool} {y first end : ℕ} → FirstReached f r falls true y first → FirstReached f r falls false y end → ColumnSpan f r y first end
column-span {f} {r} {falls} {y} {first} {end} a b =
    record {
      first_inside = a.inside;
      end_inside = b.inside;
      holds = λ c l e. (let n = box-not-short r falls (column_of f c y) (row_of f c y) e in (from c n.0 (dec_lt c first), upto c l n.1 (dec_lt c end)));
    }
  where
    from : (c : ℕ) → is_short r falls true (column_of f c y) (row_of f c y) ≡ false → Dec (c < first) → first ≤ c
    from c e (yes l) = absurd (true≢false (sym (a.short c l) ∙ e))
    from c e (no l) = omega arith

    upto : (c : ℕ) → c < f.page_w → is_short r falls false (column_of f c y) (row_of f c y) ≡ true → Dec (c < end) → c < end
    upto c k e (yes l) = l
    upto c k e (no l) = absurd (true≢false (sym e ∙ b.reached c (omega arith) k))

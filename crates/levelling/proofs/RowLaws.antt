-- A frame row by its columns: added dots at both ends, and between them the page's columns, by plateaus that move by the same number of rows.
use mathlib.Core.Path.{◌≡◌, refl, sym, ap, ◌∙◌}
use mathlib.Core.List.{List, ◌++◌, append_assoc}
use mathlib.Core.Bool.{cond, ◌&&◌}
use Prim.Native.Nat.{ℕ, ◌+◌, ◌-◌, ◌*◌, ◌/◌, ◌%◌, ◌≤◌, ◌<◌, min}
use native.Mathlib.Nat.{add_assoc, suc-mul, mul_comm}
use native.Mathlib.Numerals.{add-one}
use native.Mathlib.Decide.{dec_le}
use native.Mathlib.Omega.{arith}
use borrow.Author.Tests.{lt-ltb, le-ltb, lt-leb, le-leb}
use lib.IntN.{pos, sub_ℕ}
use lib.ListN.{get_or, length, take, drop}
use lib.Seq.{take_at, drop_at}
use borrow.Rule.Slice.PartMut.{put_mid}
use lib.Dec.{ltb, leb}
use Rattle.memory.specs.rules.Lists.{table}
use Rattle.memory.specs.rules.Words.{over}
use Rattle.memory.proofs.TableLaws.{length-table, table-ext, table_filled}
use Rattle.memory.proofs.PartLaws.{over-all, part-is-table, part_filled, table-add}
use Rattle.memory.proofs.PlaneLaws.{row-end, dot-column, dot-row}
use Rattle.levelling.specs.rules.Shears.{natural}
use Rattle.levelling.specs.rules.Frames.{Frame}
use Rattle.levelling.specs.declared.Point.{Point}
use Rattle.levelling.proofs.Integers.{sub-at-least}
use Rattle.levelling.specs.rules.Mapping.{to_page}
use Rattle.levelling.specs.rules.Planes.{within, level_at, levelled}
use Rattle.levelling.specs.stages.Moves.{column_at, Plateau}

-- ---- a column of a frame row
column-above : (page : List ℕ) (fill w h r s c : ℕ) → r < s → column_at page fill w h r s c ≡ fill
unfolding column_at
column-above page fill w h r s c l = rw (lt-leb s r l)

column-below : (page : List ℕ) (fill w h r s c : ℕ) → s ≤ r → h ≤ r - s → column_at page fill w h r s c ≡ fill
unfolding column_at
column-below page fill w h r s c l k = rw (le-leb s r l, le-ltb (r - s) h k)

column-on-page : (page : List ℕ) (fill w h r s c : ℕ) → s ≤ r → r - s < h → column_at page fill w h r s c ≡ get_or page ((r - s) * w + c) fill
unfolding column_at
column-on-page page fill w h r s c l k = rw (le-leb s r l, lt-ltb (r - s) h k)

-- ---- a plateau: n columns from c on
module _ (page : List ℕ) (fill w h r s c n : ℕ) where
  pub plateau-above : r < s → table (λ _. fill) n ≡ table (λ i. column_at page fill w h r s (c + i)) n
  plateau-above l = table-ext (λ _. fill) _ n (λ i k. sym (column-above page fill w h r s (c + i) l))

  pub plateau-below : s ≤ r → h ≤ r - s → table (λ _. fill) n ≡ table (λ i. column_at page fill w h r s (c + i)) n
  plateau-below l k = table-ext (λ _. fill) _ n (λ i q. sym (column-below page fill w h r s (c + i) l k))

  -- where it lies in the page
  pub plateau-inside : r - s < h → c + n ≤ w → length page ≡ w * h → (r - s) * w + c + n ≤ length page
  plateau-inside k l e = let q = row-end w h (r - s) k in omega arith

  pub plateau-copied : (out : List ℕ) → s ≤ r → r - s < h → c + n ≤ w → length page ≡ w * h → length out ≡ n
      → over (take ((r - s) * w + c + n - ((r - s) * w + c)) (drop ((r - s) * w + c) page)) out ≡ table (λ i. column_at page fill w h r s (c + i)) n
  plateau-copied out l k q e o =
      let a = (r - s) * w + c in
      let m : a + n - a ≡ n = omega arith in
      let part : take (a + n - a) (drop a page) ≡ table (λ i. column_at page fill w h r s (c + i)) n =
      ap (λ z. take z (drop a page)) m
      ∙ (part-is-table page a n fill (plateau-inside k q e)
      ∙ table-ext _ _ n (λ i j. ap (λ z. get_or page z fill) (add_assoc ((r - s) * w) c i) ∙ sym (column-on-page page fill w h r s (c + i) l k))) in
      over-all (take (a + n - a) (drop a page)) out (ap length part ∙ (length-table _ n ∙ sym o)) ∙ part

-- ---- where the plateaus end

-- ---- the page's columns, one more plateau put in
abbrev pub columns_at : List ℕ → ℕ → ℕ → ℕ → List ℕ → ℕ → ℕ → ℕ
columns_at page fill w h shear r c = column_at page fill w h r (get_or shear c 0) c

-- columns that are right up to c, whatever lies behind them
abbrev pub RightTo : List ℕ → ℕ → ℕ → ℕ → List ℕ → ℕ → ℕ → List ℕ → Type 0
RightTo page fill w h shear r c out = out ≡ table (columns_at page fill w h shear r) c ++ drop c out

-- the next plateau put in, and n columns from c on, which may be more than it has
pub plateau-put : (page : List ℕ) (fill w h : ℕ) (shear : List ℕ) (r c e m n : ℕ) (out v : List ℕ) → Plateau shear c e → e - c ≤ m → RightTo page fill w h shear r c out
    → v ≡ table (λ i. column_at page fill w h r (get_or shear c 0) (c + i)) m → RightTo page fill w h shear r e (put_mid c n out v)
plateau-put page fill w h shear r c e m n out v S l o q =
    let f = columns_at page fill w h shear r in
    let g : ℕ → ℕ = λ i. column_at page fill w h r (get_or shear c 0) (c + i) in
    let k = e - c in
    let more = table (λ i. g (k + i)) (m - k) ++ drop n (drop c out) in
    let front : take c out ≡ table f c = ap (take c) o ∙ take_at (table f c) (drop c out) c (length-table f c) in
    let part : v ≡ table (λ i. f (c + i)) k ++ table (λ i. g (k + i)) (m - k) =
    q
    ∙ (ap (table g) (let z : m ≡ k + (m - k) = omega arith in z)
    ∙ (table-add g k (m - k) ∙ ap (λ t. t ++ table (λ i. g (k + i)) (m - k)) (table-ext g (λ i. f (c + i)) k (λ i b. ap (λ z. column_at page fill w h r z (c + i)) (sym (S.level (c + i) (omega arith) (omega arith))))))) in
    let whole : put_mid c n out v ≡ table f e ++ more =
    (λ i. front i ++ (part i ++ drop n (drop c out)))
    ∙ (ap (λ t. table f c ++ t) (append_assoc (table (λ i. f (c + i)) k) (table (λ i. g (k + i)) (m - k)) (drop n (drop c out)))
    ∙ (sym (append_assoc (table f c) (table (λ i. f (c + i)) k) more)
    ∙ (ap (λ t. t ++ more) (sym (table-add f c k)) ∙ ap (λ z. table f z ++ more) (let z : c + k ≡ e = (let b = S.some in omega arith) in z)))) in
    whole ∙ ap (λ t. table f e ++ t) (sym (ap (drop e) whole ∙ drop_at (table f e) more e (length-table f e)))

-- ---- a frame row
module _ (f : Frame) (fill : ℕ) (page : List ℕ) (r : ℕ) where
  abbrev left : ℕ
  left = get_or f.shear_x r 0

  pub level_at-left : (x : ℕ) → x < left → level_at f fill page x r ≡ fill
  unfolding level_at to_page
  level_at-left x l = rw (lt-ltb x left l)

  pub level_at-right : (x : ℕ) → left + f.page_w ≤ x → level_at f fill page x r ≡ fill
  unfolding level_at to_page
  level_at-right x l = rw (le-ltb x left (omega arith), le-ltb (x - left) f.page_w (omega arith))

  mapped : (i : ℕ) → i < f.page_w → to_page f (left + i) r ≡ record { x = pos i; y = sub_ℕ r (get_or f.shear i 0) }
  unfolding to_page
  mapped i l =
      let a : left + i - left ≡ i = omega arith in
      let m : min (left + i - left) (f.page_w - 1) ≡ i = omega arith in
      λ t. record { x = (sub-at-least (left + i) left (omega arith) ∙ ap pos a) t; y = sub_ℕ r (get_or f.shear (m t) 0) }

  pub level_at-column : (i : ℕ) → i < f.page_w → level_at f fill page (left + i) r ≡ columns_at page fill f.page_w f.page_h f.shear r i
  unfolding level_at column_at
  level_at-column i l =
      ap (λ (p : Point). cond (within f.page_w p.x && within f.page_h p.y) (get_or page (natural p.y * f.page_w + natural p.x) fill) fill) (mapped i l)
      ∙ go (get_or f.shear i 0) (dec_le (get_or f.shear i 0) r)
    where
      go : (s : ℕ) → Dec (s ≤ r)
          → cond (ltb i f.page_w && within f.page_h (sub_ℕ r s)) (get_or page (natural (sub_ℕ r s) * f.page_w + i) fill) fill
          ≡ cond (leb s r && ltb (r - s) f.page_h) (get_or page ((r - s) * f.page_w + i) fill) fill
      go s (yes k) = rw (lt-ltb i f.page_w l, le-ltb r s k, le-leb s r k)
      go s (no k) = rw (lt-ltb i f.page_w l, lt-ltb r s (omega arith), lt-leb s r (omega arith))

-- ---- row by row
abbrev pub plane_at : Frame → ℕ → List ℕ → ℕ → ℕ
plane_at f fill page i = level_at f fill page (i % f.w) (i / f.w)

-- dot x of row r
row-dot : (f : Frame) (fill : ℕ) (page : List ℕ) (r x : ℕ) → x < f.w → level_at f fill page x r ≡ plane_at f fill page (r * f.w + x)
row-dot f fill page r x l t = level_at f fill page (sym (dot-column f.w x r l) t) (sym (dot-row f.w x r l) t)

-- one more row put in, as the code does it: added dots, the page's columns, added dots, with the parts' lengths as the code has them
pub row_put : (f : Frame) (fill : ℕ) (page s out a b c : List ℕ) (r la lc n₁ n₂ n₃ : ℕ) → out ≡ table (plane_at f fill page) (r * f.w) ++ drop (r * f.w) s
    → a ≡ table (λ _. fill) la → b ≡ table (columns_at page fill f.page_w f.page_h f.shear r) f.page_w → c ≡ table (λ _. fill) lc
    → get_or f.shear_x r 0 + f.page_w ≤ f.w → la ≡ get_or f.shear_x r 0 → lc ≡ f.w - (get_or f.shear_x r 0 + f.page_w)
    → n₁ ≡ get_or f.shear_x r 0 → n₂ ≡ f.page_w → n₃ ≡ f.w - (get_or f.shear_x r 0 + f.page_w)
    → put_mid (r * f.w + get_or f.shear_x r 0 + f.page_w) n₃ (put_mid (r * f.w + get_or f.shear_x r 0) n₂ (put_mid (r * f.w) n₁ out a) b) c
    ≡ table (plane_at f fill page) ((r + 1) * f.w) ++ drop ((r + 1) * f.w) s
row_put f fill page s out a b c r la lc n₁ n₂ n₃ o ea eb ec k qa qc e₁ e₂ e₃ =
    let P = plane_at f fill page in
    let w = f.w in
    let v = f.page_w in
    let l = get_or f.shear_x r 0 in
    let at = r * w in
    let n = w - (l + v) in
    let dot = row-dot f fill page r in
    let one : put_mid at l out a ≡ table P (at + l) ++ drop (at + l) s =
    part_filled P s out a at l o (ea ∙ (ap (table (λ _. fill)) qa ∙ table-ext _ _ l (λ i q. sym (level_at-left f fill page r i q) ∙ dot i (omega arith)))) in
    let two : put_mid (at + l) v (put_mid at l out a) b ≡ table P (at + l + v) ++ drop (at + l + v) s =
    part_filled P s (put_mid at l out a) b (at + l) v one
    (eb ∙ table-ext _ _ v (λ i q. sym (level_at-column f fill page r i q) ∙ (dot (l + i) (omega arith) ∙ ap P (sym (add_assoc at l i))))) in
    let three : put_mid (at + l + v) n (put_mid (at + l) v (put_mid at l out a) b) c ≡ table P (at + l + v + n) ++ drop (at + l + v + n) s =
    part_filled P s (put_mid (at + l) v (put_mid at l out a) b) c (at + l + v) n two
    (ec ∙ (ap (table (λ _. fill)) qc ∙ table-ext _ _ n (λ i q. sym (level_at-right f fill page r (l + v + i) (omega arith)) ∙ (dot (l + v + i) (omega arith) ∙ ap P (let z : at + (l + v + i) ≡ at + l + v + i = omega arith in z))))) in
    (λ t. put_mid (at + l + v) (e₃ t) (put_mid (at + l) (e₂ t) (put_mid at (e₁ t) out a) b) c)
    ∙ (three ∙ ap (λ z. table P z ++ drop z s) ((let z : at + l + v + n ≡ at + w = omega arith in z) ∙ (sym (suc-mul r w) ∙ ap (λ z. z * w) (sym (add-one r)))))

pub rows_all : (f : Frame) (fill : ℕ) (page s out : List ℕ) (r : ℕ) → out ≡ table (plane_at f fill page) (r * f.w) ++ drop (r * f.w) s → r ≡ f.h → out ≡ over (levelled f fill page) s
unfolding levelled
rows_all f fill page s out r o e =
    table_filled (plane_at f fill page) s out (levelled f fill page) (r * f.w) (f.w * f.h) o (ap (λ z. z * f.w) e ∙ mul_comm f.h f.w) refl

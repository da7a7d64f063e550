-- Extents as loops find them, run by run along a row.
use mathlib.Core.Path.{◌≡◌, refl, sym, ap, ◌∙◌}
use mathlib.Core.Bool.{Bool, true, false, cond, not, beq, ◌&&◌, true≢false}
use mathlib.Core.List.{List, ◌++◌}
use Prim.Native.Nat.{ℕ, suc, ◌+◌, ◌-◌, ◌*◌, ◌≤◌, ◌<◌, min}
use native.Mathlib.Nat.{le_refl, mul_comm, suc-mul, mul-le-mul_right}
use native.Mathlib.Decide.{dec_lt}
use native.Mathlib.Omega.{arith}
use borrow.Author.Tests.{lt-ltb, le-ltb}
use lib.ListN.{length, get_or, take, drop, get_or-eq_default}
use lib.Dec.{ltb}
use borrow.Rule.Slice.PartMut.{put_mid}
use mir.Val.{bool_byte}
use Rattle.memory.specs.rules.Lists.{table}
use Rattle.memory.specs.rules.Words.{over}
use Rattle.memory.proofs.TableLaws.{length-table, get_or-table, table-ext}
use Rattle.memory.specs.rules.Limits.{max_extent}
use Rattle.memory.specs.rules.Masks.{is_ink}
use Rattle.extents.specs.rules.Extents.{ink_at, behind, run_through, extent}
use Rattle.extents.specs.stages.Scans.{ScannedTo, Starts, clear, blank, RowTo, single_dot, row_extent, until}
use Rattle.memory.proofs.PlaneLaws.{dot-column, dot-row}
use Rattle.extents.proofs.OverLaws.{until-below, until-from, length_over, over-part, over-whole}
use Rattle.memory.proofs.PartLaws.{get_or-part, length_part}
use Rattle.extents.proofs.RunLaws.{behind-off, ahead-off, run_through-ends, run_through-off, starts-run, starts-zero}

pub ink-zero : (m : List ℕ) (i : ℕ) → get_or m i 0 ≡ 0 → is_ink m i ≡ false
unfolding is_ink
ink-zero m i e = le-ltb 0 (get_or m i 0) (omega arith)

pub ink-past : (m : List ℕ) (i : ℕ) → length m ≤ i → is_ink m i ≡ false
ink-past m i l = ink-zero m i (get_or-eq_default m 0 l)

pub ink-inside : (m : List ℕ) (i : ℕ) → is_ink m i ≡ true → i < length m
ink-inside m i e = go (dec_lt i (length m))
  where
    go : Dec (i < length m) → i < length m
    go (yes l) = l
    go (no l) = absurd (true≢false (sym e ∙ ink-past m i (omega arith)))

-- Scans

-- what `!=` between two tests tells
pub same-bit : (a b : Bool) → not (beq a b) ≡ false → a ≡ b
same-bit true true e = refl
same-bit false false e = refl
same-bit true false e = absurd (true≢false e)
same-bit false true e = absurd (true≢false e)

pub other-bit : (a b : Bool) → not (beq a b) ≡ true → a ≡ not b
other-bit true false e = refl
other-bit false true e = refl
other-bit true true e = absurd (true≢false (sym e))
other-bit false false e = absurd (true≢false (sym e))

pub scan-none : (p : ℕ → Bool) (b : Bool) (x : ℕ) (k : ℕ) → x ≤ k → k < x → p k ≡ b
scan-none p b x k h l = absurd (omega arith)

pub scan-more : (p : ℕ → Bool) (b : Bool) (x e : ℕ) → ((k : ℕ) → x ≤ k → k < e → p k ≡ b) → p e ≡ b → (k : ℕ) → x ≤ k → k < e + 1 → p k ≡ b
scan-more p b x e h t k l u = go (dec_lt k e)
  where
    go : Dec (k < e) → p k ≡ b
    go (yes d) = h k l d
    go (no d) = ap p (let z : k ≡ e = omega arith in z) ∙ t

-- A row, run by run

module _ (row : List ℕ) where
  abbrev p : ℕ → Bool
  p = is_ink row

  abbrev n : ℕ
  n = length row

  -- a chunk of blanks from a start on, then a chunk of ink
  module _ (x b e : ℕ) (S : Starts p x) (B : ScannedTo p false x n b) (I : ScannedTo p true b n e) where
    blank-end-off : p e ≡ false
    blank-end-off = go (dec_lt e n)
      where
        go : Dec (e < n) → p e ≡ false
        go (yes l) = I.stop l
        go (no l) = ink-past row e (omega arith)

    pub row-starts : Starts (is_ink row) e
    row-starts = blank blank-end-off

    pub row-blank : (k : ℕ) → x ≤ k → k < b → extent (is_ink row) (length row) k ≡ 0
    unfolding extent
    row-blank k l u = let q = run_through-off p n k (B.all k l u) in omega arith

    before : b < n → behind p b ≡ 0
    before l = go (dec_lt x b)
      where
        go : Dec (x < b) → behind p b ≡ 0
        go (yes d) = let z : suc (b - 1) ≡ b = omega arith in ap (behind p) (sym z) ∙ behind-off p (b - 1) (B.all (b - 1) (omega arith) (omega arith))
        go (no d) = let z : x ≡ b = (let q = B.low in omega arith) in ap (behind p) (sym z) ∙ starts-run p x S (ap p z ∙ B.stop l)

    pub row-ink : (k : ℕ) → b ≤ k → k < e → extent (is_ink row) (length row) k ≡ min (e - b) max_extent
    unfolding extent
    row-ink k l u =
        ap (λ r. min r max_extent)
        (run_through-ends p n b e I.high (before (let q = I.high in omega arith)) (ahead-off p e (n - e) blank-end-off) I.all k l u)

    pub row-further : x < length row → x < e
    row-further l = go (dec_lt x b) (dec_lt b e)
      where
        go : Dec (x < b) → Dec (b < e) → x < e
        go (yes d) f = let q = I.low in omega arith
        go (no d) (yes f) = let q = B.low in omega arith
        go (no d) (no f) =
            let z : e ≡ b = (let q = I.low in omega arith) in
            let y : b < n = (let q = B.low in omega arith) in
            absurd (true≢false (sym (B.stop y) ∙ (ap p (sym z) ∙ blank-end-off)))

-- a row of a mask, as a part of it
pub row-part : (w y : ℕ) (m : List ℕ) → 0 < w → y * w + w ≤ length m → (k : ℕ) → k < w
    → extent (is_ink (take (y * w + w - y * w) (drop (y * w) m))) (length (take (y * w + w - y * w) (drop (y * w) m))) k ≡ row_extent w m (y * w + k)
unfolding is_ink ink_at
row-part w y m l h k u =
    let z : y * w + w - y * w ≡ w = omega arith in
    let q : length (take (y * w + w - y * w) (drop (y * w) m)) ≡ w = length_part (y * w) (y * w + w) m (omega arith) h ∙ z in
    (λ i. extent (λ x. same x i) (q i) k) ∙ sym (λ i. extent (λ x. ink_at w m x (dot-row w k y u i)) w (dot-column w k y u i))
  where
    same : (x : ℕ) → is_ink (take (y * w + w - y * w) (drop (y * w) m)) x ≡ ink_at w m x y
    same x = go (dec_lt x w)
      where
        go : Dec (x < w) → ltb 0 (get_or (take (y * w + w - y * w) (drop (y * w) m)) x 0) ≡ (ltb x w && ltb 0 (get_or m (y * w + x) 0))
        go (yes d) = rw (lt-ltb x w d) (ap (ltb 0) (get_or-part (y * w) (y * w + w - y * w) m x (omega arith)))
        go (no d) =
            let z : length (take (y * w + w - y * w) (drop (y * w) m)) ≤ x = (let q = length_part (y * w) (y * w + w) m (omega arith) h in omega arith) in
            rw (le-ltb x w (omega arith)) (ap (ltb 0) (get_or-eq_default (take (y * w + w - y * w) (drop (y * w) m)) 0 z))

-- Rows of a plane

pub row_upto : (w e y : ℕ) → y < e → y * w + w ≤ e * w
row_upto w e y l = let a : suc y * w ≤ e * w = mul-le-mul_right w l in let b : suc y * w ≡ y * w + w = suc-mul y w in omega arith

pub row_inside : (w h y : ℕ) → y < h → y * w + w ≤ w * h
row_inside w h y l = let a = row_upto w h y l in let c = mul_comm h w in omega arith

pub row_next : (w y : ℕ) → y * w + w ≡ (y + 1) * w
row_next w y = let b : suc y * w ≡ y * w + w = suc-mul y w in sym b ∙ ap (λ k. k * w) (let e : suc y ≡ y + 1 = omega arith in e)

pub row_before : (w y : ℕ) → 0 < y → (y - 1) * w + w ≡ y * w
row_before w y l = row_next w (y - 1) ∙ ap (λ k. k * w) (let z : y - 1 + 1 ≡ y = omega arith in z)

-- Loops

-- a bit times a number, and a choice by a bit: the code has no branch
pub bit-times : (t : Bool) (a : ℕ) → bool_byte t * a ≡ cond t a 0
bit-times true a = omega arith
bit-times false a = omega arith

pub bit-times-le : (t : Bool) (a : ℕ) → bool_byte t * a ≤ a
bit-times-le true a = omega arith
bit-times-le false a = omega arith

pub bit_le : (t : Bool) → bool_byte t ≤ 1
bit_le true = omega arith
bit_le false = omega arith

-- one chunk of a row with one value
pub chunk-filled : (f g : ℕ → ℕ) (n : ℕ) (s e t : List ℕ) (x y v : ℕ) → n ≤ length s → x ≤ y → y ≤ n → e ≡ over (table (until x f g) n) s
    → t ≡ table (λ _. v) (length (take (y - x) (drop x e))) → ((k : ℕ) → x ≤ k → k < y → f k ≡ v)
    → put_mid x (y - x) e t ≡ over (table (until y f g) n) s
chunk-filled f g n s e t x y v l a b held q h =
    let z : length e ≡ length s = ap length held ∙ length_over (until x f g) n s l in
    let c : length (take (y - x) (drop x e)) ≡ y - x = length_part x y e a (omega arith) in
    let r : t ≡ table (λ _. v) (y - x) = q ∙ ap (table (λ _. v)) c in
    ap (λ o. put_mid x (y - x) o t) held
    ∙ over-part f g n s x y t l a b (ap length r ∙ length-table (λ _. v) (y - x))
    (λ k u. ap (λ o. get_or o k 0) r ∙ (get_or-table (λ _. v) (y - x) k 0 u ∙ sym (h (x + k) (omega arith) (omega arith))))

-- the first entries of a table, none yet
pub table-begun : (f : ℕ → ℕ) (s : List ℕ) → s ≡ table f 0 ++ drop 0 s
unfolding table
table-begun f s = refl

pub single-bit : (row : List ℕ) (k : ℕ) → bool_byte (ltb 0 (get_or row k 0)) ≡ single_dot row k
unfolding is_ink
single-bit row k = go (ltb 0 (get_or row k 0))
  where
    go : (b : Bool) → bool_byte b ≡ cond b 1 0
    go true = refl
    go false = refl

-- A row, from start to start

module _ (row : List ℕ) where
  abbrev F : ℕ → ℕ
  F = extent (is_ink row) (length row)

  -- nothing has its extent yet
  pub row-begun : (e : List ℕ) → e ≡ table (single_dot row) (length row) → RowTo row 0 e
  row-begun e h =
      record {
        inside = omega arith;
        starts = starts-zero (is_ink row);
        held = h ∙ table-ext (single_dot row) (until 0 F (single_dot row)) (length row) (λ k l. sym (until-from 0 F (single_dot row) k (omega arith)));
      }

  module _ (x : ℕ) (e : List ℕ) (R : RowTo row x e) where
    pub row-size : length e ≡ length row
    row-size = ap length R.held ∙ length-table (until x F (single_dot row)) (length row)

    module _ (to : ℕ) (further : x < to) (none : (k : ℕ) → x ≤ k → k < to → (is_ink row k && is_ink row (k + 1)) ≡ false) where
      first_off : (a b : Bool) → (a && b) ≡ false → b ≡ true → a ≡ false
      first_off true b h q = absurd (true≢false (sym q ∙ h))
      first_off false b h q = refl

      alone-before : (k : ℕ) → x ≤ k → k < to → is_ink row k ≡ true → behind (is_ink row) k ≡ 0
      alone-before k l u on = go (dec_lt x k)
        where
          go : Dec (x < k) → behind (is_ink row) k ≡ 0
          go (yes d) =
              let z : k - 1 + 1 ≡ k = omega arith in
              let y : suc (k - 1) ≡ k = omega arith in
              ap (behind (is_ink row)) (sym y)
              ∙ behind-off (is_ink row) (k - 1) (first_off (is_ink row (k - 1)) (is_ink row k) (ap (λ t. is_ink row (k - 1) && is_ink row t) (sym z) ∙ none (k - 1) (omega arith) (omega arith)) on)
          go (no d) = let z : x ≡ k = omega arith in ap (behind (is_ink row)) (sym z) ∙ starts-run (is_ink row) x R.starts (ap (is_ink row) z ∙ on)

      -- where no two dots join, each is a run of its own
      alone : (k : ℕ) → x ≤ k → k < to → F k ≡ single_dot row k
      unfolding extent
      alone k l u = go (is_ink row k) refl
        where
          go : (b : Bool) → is_ink row k ≡ b → min (run_through (is_ink row) (length row) k) max_extent ≡ cond b 1 0
          go false f = let q = run_through-off (is_ink row) (length row) k f in omega arith
          go true f =
              let off : is_ink row (k + 1) ≡ false = sym (ap (λ t. t && is_ink row (k + 1)) f) ∙ none k l u in
              let q =
              run_through-ends (is_ink row) (length row) k (k + 1) (let z = ink-inside row k f in omega arith) (alone-before k l u f) (ahead-off (is_ink row) (k + 1) (length row - (k + 1)) off)
              (λ j a b. ap (is_ink row) (let z : j ≡ k = omega arith in z) ∙ f) k (le_refl k) (omega arith) in
              omega arith

      pub row-skip : to ≤ length row → RowTo row to e
      row-skip l =
          record {
            inside = l;
            starts = go (is_ink row to) refl;
            held = R.held ∙ table-ext (until x F (single_dot row)) (until to F (single_dot row)) (length row) (λ k u. same k (dec_lt k x) (dec_lt k to));
          }
        where
          go : (b : Bool) → is_ink row to ≡ b → Starts (is_ink row) to
          go false f = blank f
          go true f =
              let z : to - 1 + 1 ≡ to = omega arith in
              let y : suc (to - 1) ≡ to = omega arith in
              clear
              (ap (behind (is_ink row)) (sym y)
              ∙ behind-off (is_ink row) (to - 1) (first_off (is_ink row (to - 1)) (is_ink row to) (ap (λ t. is_ink row (to - 1) && is_ink row t) (sym z) ∙ none (to - 1) (omega arith) (omega arith)) f))

          same : (k : ℕ) → Dec (k < x) → Dec (k < to) → until x F (single_dot row) k ≡ until to F (single_dot row) k
          same k (yes a) b = until-below x F (single_dot row) k a ∙ sym (until-below to F (single_dot row) k (omega arith))
          same k (no a) (yes b) = until-from x F (single_dot row) k (omega arith) ∙ (sym (alone k (omega arith) b) ∙ sym (until-below to F (single_dot row) k b))
          same k (no a) (no b) = until-from x F (single_dot row) k (omega arith) ∙ sym (until-from to F (single_dot row) k (omega arith))

    -- the last dot is a run of its own where it is a start
    pub row_done : length row ≤ x + 1 → e ≡ table F (length row)
    row_done l = go (dec_lt x (length row))
      where
        all : (to : ℕ) → to ≡ length row → RowTo row to e → e ≡ table F (length row)
        all to q T = T.held ∙ table-ext (until to F (single_dot row)) F (length row) (λ k u. until-below to F (single_dot row) k (omega arith))

        and-off : (a b : Bool) → b ≡ false → (a && b) ≡ false
        and-off true b h = h
        and-off false b h = refl

        go : Dec (x < length row) → e ≡ table F (length row)
        go (yes d) = all (length row) refl (row-skip (length row) d (λ k a b. and-off (is_ink row k) (is_ink row (k + 1)) (ink-past row (k + 1) (omega arith))) (le_refl (length row)))
        go (no d) = all x (let h = R.inside in let z : x ≡ length row = omega arith in z) R

    -- one run more, after a chunk of blanks
    pub row-run : (b k v : ℕ) (t : List ℕ) → ScannedTo (is_ink row) false x (length row) b → ScannedTo (is_ink row) true b (length row) k
        → t ≡ table (λ _. v) (length (take (k - b) (drop b e))) → v ≡ min (k - b) max_extent → RowTo row k (put_mid b (k - b) e t)
    row-run b k v t B I h c =
        record {
          inside = I.high;
          starts = row-starts row x b k R.starts B I;
          held =
              chunk-filled F (single_dot row) (length row) e e t b k v (omega (arith, row-size)) I.low I.high blanks h (λ j l u. row-ink row x b k R.starts B I j l u ∙ sym c)
              ∙ over-whole (until k F (single_dot row)) (length row) e (sym row-size);
        }
      where
        same : (j : ℕ) → Dec (j < x) → Dec (j < b) → until x F (single_dot row) j ≡ until b F (single_dot row) j
        same j (yes u) w = until-below x F (single_dot row) j u ∙ sym (until-below b F (single_dot row) j (let l = B.low in omega arith))
        same j (no u) (yes w) =
            until-from x F (single_dot row) j (omega arith)
            ∙ (ap (λ t. cond t 1 0) (B.all j (omega arith) w) ∙ (sym (row-blank row x b k R.starts B I j (omega arith) w) ∙ sym (until-below b F (single_dot row) j w)))
        same j (no u) (no w) = until-from x F (single_dot row) j (omega arith) ∙ sym (until-from b F (single_dot row) j (omega arith))

        blanks : e ≡ over (table (until b F (single_dot row)) (length row)) e
        blanks =
            R.held
            ∙ (table-ext (until x F (single_dot row)) (until b F (single_dot row)) (length row) (λ j u. same j (dec_lt j x) (dec_lt j b))
            ∙ sym (over-whole (until b F (single_dot row)) (length row) e (sym row-size)))

-- one row more
pub rows-loop : (w h y : ℕ) (m s e t : List ℕ) → 0 < w → y < h → length m ≡ w * h → w * h ≤ length s
    → e ≡ over (table (until (y * w) (row_extent w m) (λ k. get_or s k 0)) (w * h)) s
    → t ≡ table (extent (is_ink (take (y * w + w - y * w) (drop (y * w) m))) (length (take (y * w + w - y * w) (drop (y * w) m)))) (length (take (y * w + w - y * w) (drop (y * w) m)))
    → put_mid (y * w) (y * w + w - y * w) e t ≡ over (table (until ((y + 1) * w) (row_extent w m) (λ k. get_or s k 0)) (w * h)) s
rows-loop w h y m s e t wide l q room held r =
    let b = row_inside w h y l in
    let z : length (take (y * w + w - y * w) (drop (y * w) m)) ≡ y * w + w - y * w = length_part (y * w) (y * w + w) m (omega arith) (omega arith) in
    let f = extent (is_ink (take (y * w + w - y * w) (drop (y * w) m))) (length (take (y * w + w - y * w) (drop (y * w) m))) in
    let c : t ≡ table f (y * w + w - y * w) = r ∙ ap (table f) z in
    ap (λ o. put_mid (y * w) (y * w + w - y * w) o t) held
    ∙ (over-part (row_extent w m) (λ k. get_or s k 0) (w * h) s (y * w) (y * w + w) t room (omega arith) b (ap length c ∙ length-table f (y * w + w - y * w))
    (λ k u. ap (λ o. get_or o k 0) c ∙ (get_or-table f (y * w + w - y * w) k 0 u ∙ row-part w y m wide (omega arith) k (omega arith)))
    ∙ ap (λ k. over (table (until k (row_extent w m) (λ k. get_or s k 0)) (w * h)) s) (row_next w y))

-- Extents along columns: counts down the columns, taken up again, row by row and band by band.
use mathlib.Core.Path.{◌≡◌, refl, sym, ap, subst, ◌∙◌}
use mathlib.Core.Bool.{Bool, true, false, cond, ◌&&◌, ◌||◌, true≢false}
use mathlib.Core.List.{List}
use Prim.Native.Nat.{ℕ, suc, ◌+◌, ◌-◌, ◌*◌, ◌/◌, ◌%◌, ◌≤◌, ◌<◌, min}
use native.Mathlib.Nat.{le_of_mul-le-mul_right, mul-le-mul_left, mod-eq-sub-mod, div-eq_of_lt, div-eq-sub-div, add-mod_right, add-div_right, div-lt_iff_lt-mul, mul_comm, mul-le-mul_right}
use native.Mathlib.Decide.{dec_lt}
use native.Mathlib.Omega.{arith}
use borrow.Author.Tests.{lt-ltb, le-ltb, eqb-true}
use lib.ListN.{length, get_or, take, drop}
use lib.Dec.{ltb, eqb}
use Rattle.memory.specs.rules.Words.{over}
use Rattle.memory.specs.rules.Limits.{max_extent}
use Rattle.memory.specs.rules.Masks.{is_ink}
use Rattle.extents.specs.rules.Extents.{ink_at, behind, run_through, extent, column_extents}
use Rattle.extents.specs.stages.Scans.{MaskFits, TakesUp, count_down, capped_count, column_extent}
use Rattle.extents.specs.stages.Bands.{Put, Counts, BandsCounted, count_from, band_count}
use Rattle.memory.proofs.PlaneLaws.{dot-column, dot-row}
use Rattle.extents.proofs.MaskLaws.{ink_at-dot}
use Rattle.extents.proofs.OverLaws.{over-unique}
use Rattle.memory.proofs.PartLaws.{get_or-part, length_part}
use Rattle.extents.proofs.RunLaws.{behind-le, behind-from, count_next, run_through-off, run_through-next, run_through-counted}
use Rattle.extents.proofs.ExtentLaws.{ink-zero, ink-past, ink-inside, scan-more, row_inside, row_next, row_before}
use Rattle.extents.proofs.PutLaws.{put_same}

-- One dot, from the dot above or below

module _ (w : ℕ) (m : List ℕ) (wide : 0 < w) where
  -- what ends at dot i, from what ends at the dot above
  pub count-step : (i : ℕ) → count_down w m i ≡ cond (is_ink m i) (cond (ltb i w) 0 (count_down w m (i - w)) + 1) 0
  unfolding behind
  count-step i = ap (λ b. cond b (suc (behind (ink_at w m (i % w)) (i / w))) 0) (ink_at-dot w m i wide) ∙ ap (λ c. cond (is_ink m i) c 0) (go (dec_lt i w))
    where
      go : Dec (i < w) → suc (behind (ink_at w m (i % w)) (i / w)) ≡ cond (ltb i w) 0 (count_down w m (i - w)) + 1
      go (yes l) = rw (lt-ltb i w l) (let e : i / w ≡ 0 = div-eq_of_lt l in rw e refl)
      go (no l) =
          let a : i % w ≡ (i - w) % w = mod-eq-sub-mod (omega arith) in
          let b : i / w ≡ (i - w) / w + 1 = div-eq-sub-div wide (omega arith) in
          let d : i / w ≡ suc ((i - w) / w) = omega arith in
          rw (le-ltb i w (omega arith)) ((λ j. suc (behind (ink_at w m (a j)) (d j))) ∙ (let e : suc (count_down w m (i - w)) ≡ count_down w m (i - w) + 1 = omega arith in e))

  below : (i : ℕ) → ink_at w m (i % w) (suc (i / w)) ≡ is_ink m (i + w)
  below i =
      let a : (i + w) % w ≡ i % w = add-mod_right i w in
      let b : (i + w) / w ≡ suc (i / w) = (let q = add-div_right i wide in omega arith) in
      sym (λ j. ink_at w m (a j) (b j)) ∙ ink_at-dot w m (i + w) wide

  -- the extent of dot i, from its count and the extent of the dot below
  pub extent-step : (h : ℕ) → length m ≡ w * h → (i : ℕ) → i < w * h
      → column_extent w h m i ≡ cond (is_ink m i) (cond (is_ink m (i + w)) (column_extent w h m (i + w)) (min (count_down w m i) max_extent)) 0
  unfolding extent
  extent-step h q i l = go (is_ink m i) refl (is_ink m (i + w)) refl
    where
      row : i / w < h
      row = (div-lt_iff_lt-mul wide).1 (let z = mul_comm w h in omega arith)

      go : (a : Bool) → is_ink m i ≡ a → (b : Bool) → is_ink m (i + w) ≡ b → column_extent w h m i ≡ cond a (cond b (column_extent w h m (i + w)) (min (count_down w m i) max_extent)) 0
      go false e b f = ap (λ r. min r max_extent) (run_through-off (ink_at w m (i % w)) h (i / w) (ink_at-dot w m i wide ∙ e))
      go true e true f =
          let a : (i + w) % w ≡ i % w = add-mod_right i w in
          let b : (i + w) / w ≡ suc (i / w) = (let q = add-div_right i wide in omega arith) in
          let u : i + w < w * h = (let z = ink-inside m (i + w) f in omega arith) in
          let v : suc (i / w) < h = (let z : (i + w) / w < h = (div-lt_iff_lt-mul wide).1 (let z = mul_comm w h in omega arith) in omega arith) in
          ap (λ r. min r max_extent)
          (run_through-next (ink_at w m (i % w)) h (i / w) v (ink_at-dot w m i wide ∙ e) (below i ∙ f)
          ∙ sym (λ j. run_through (ink_at w m (a j)) h (b j)))
      go true e false f = ap (λ r. min r max_extent) (run_through-counted (ink_at w m (i % w)) h (i / w) row (below i ∙ f))

  -- the same with what a dot counts capped
  pub capped-step : (i : ℕ) → capped_count w m i ≡ cond (is_ink m i) (min (cond (ltb i w) 0 (capped_count w m (i - w)) + 1) max_extent) 0
  capped-step i = ap (λ c. min c max_extent) (count-step i) ∙ go (is_ink m i) (ltb i w)
    where
      go : (a b : Bool) → min (cond a (cond b 0 (count_down w m (i - w)) + 1) 0) max_extent ≡ cond a (min (cond b 0 (capped_count w m (i - w)) + 1) max_extent) 0
      go true true = refl
      go true false = omega arith
      go false b = omega arith

  -- the extent of dot i is that of the dot below where both are ink, else its count
  pub extent-taken : (h : ℕ) → length m ≡ w * h → (i : ℕ) → i < w * h → column_extent w h m i ≡ cond (is_ink m i && is_ink m (i + w)) (column_extent w h m (i + w)) (capped_count w m i)
  extent-taken h q i l = extent-step h q i l ∙ go (is_ink m i) refl (is_ink m (i + w))
    where
      go : (a : Bool) → is_ink m i ≡ a → (b : Bool) → cond a (cond b (column_extent w h m (i + w)) (capped_count w m i)) 0 ≡ cond (a && b) (column_extent w h m (i + w)) (capped_count w m i)
      go true e b = refl
      go false e b = sym (capped-step i ∙ ap (λ t. cond t (min (cond (ltb i w) 0 (capped_count w m (i - w)) + 1) max_extent) 0) e)

-- the last row, below which nothing lies
last_row : (w h : ℕ) (m : List ℕ) → 0 < w → length m ≡ w * h → (i : ℕ) → i < w * h → w * h ≤ i + w → capped_count w m i ≡ column_extent w h m i
last_row w h m wide q i l k = sym (extent-taken w m wide h q i l ∙ ap (λ t. cond t (column_extent w h m (i + w)) (capped_count w m i)) (and-off (is_ink m i) (is_ink m (i + w)) (ink-past m (i + w) (omega arith))))
  where
    and-off : (a b : Bool) → b ≡ false → (a && b) ≡ false
    and-off true b e = e
    and-off false b e = refl

-- Chunks of a row

part-ink : (a b : ℕ) (m : List ℕ) (k : ℕ) → a ≤ k → k < b → is_ink (take (b - a) (drop a m)) (k - a) ≡ is_ink m k
unfolding is_ink
part-ink a b m k l u = ap (ltb 0) (get_or-part a (b - a) m (k - a) (omega arith) ∙ ap (λ j. get_or m j 0) (let z : a + (k - a) ≡ k = omega arith in z))

-- a chunk without ink
pub chunk-blank : (a b : ℕ) (m : List ℕ) → b ≤ length m → ((j : ℕ) → j < length (take (b - a) (drop a m)) → is_ink (take (b - a) (drop a m)) j ≡ false)
    → (k : ℕ) → a ≤ k → k < b → is_ink m k ≡ false
chunk-blank a b m l h k x y = sym (part-ink a b m k x y) ∙ h (k - a) (let z = length_part a b m (omega arith) l in omega arith)

-- a chunk of which no dot goes on in the chunk w behind it
pub chunk-apart : (a b w : ℕ) (m : List ℕ) → b ≤ length m
    → ((j : ℕ) → j < length (take (b - a) (drop a m)) → (is_ink (take (b - a) (drop a m)) j && is_ink (take (b + w - (a + w)) (drop (a + w) m)) j) ≡ false)
    → (k : ℕ) → a ≤ k → k < b → (is_ink m k && is_ink m (k + w)) ≡ false
chunk-apart a b w m l h k x y =
    let z : k + w - (a + w) ≡ k - a = omega arith in
    let q = ap (is_ink (take (b + w - (a + w)) (drop (a + w) m))) (sym z) ∙ part-ink (a + w) (b + w) m (k + w) (omega arith) (omega arith) in
    sym (λ i. part-ink a b m k x y i && q i) ∙ h (k - a) (let z = length_part a b m (omega arith) l in omega arith)

-- no ink so far, nor here
pub blank-more : (dots : List ℕ) (i : ℕ) (blank : Bool) → (blank ≡ true → (k : ℕ) → k < i → is_ink dots k ≡ false) → (blank && eqb (get_or dots i 0) 0) ≡ true
    → (k : ℕ) → k < i + 1 → is_ink dots k ≡ false
blank-more dots i true h q k u = scan-more (is_ink dots) false 0 i (λ j l. h refl j) (ink-zero dots i (eqb-true (get_or dots i 0) 0 q)) k (omega arith) u
blank-more dots i false h q k u = absurd (true≢false (sym q))

-- none that goes on below so far, nor here
pub joins-more : (dots below : List ℕ) (i : ℕ) (found : Bool) → (found ≡ false → (k : ℕ) → k < i → (is_ink dots k && is_ink below k) ≡ false)
    → (found || (ltb 0 (get_or dots i 0) && ltb 0 (get_or below i 0))) ≡ false → (k : ℕ) → k < i + 1 → (is_ink dots k && is_ink below k) ≡ false
unfolding is_ink
joins-more dots below i false h q k u = scan-more (λ k. is_ink dots k && is_ink below k) false 0 i (λ j l. h refl j) q k (omega arith) u
joins-more dots below i true h q k u = absurd (true≢false q)

-- Counts, going down

-- where there is no ink nothing is counted
pub count-blank : (w : ℕ) (m : List ℕ) (i : ℕ) → 0 < w → is_ink m i ≡ false → capped_count w m i ≡ 0
count-blank w m i wide e = capped-step w m wide i ∙ ap (λ t. cond t (min (cond (ltb i w) 0 (capped_count w m (i - w)) + 1) max_extent) 0) e

-- in the first row
pub count-first : (w : ℕ) (m : List ℕ) (i v : ℕ) → i < w → v ≡ cond (ltb 0 (get_or m i 0)) (min (0 + 1) max_extent) 0 → v ≡ capped_count w m i
unfolding is_ink
count-first w m i v l q =
    q ∙ (ap (λ b. cond (is_ink m i) (min (cond b 0 (capped_count w m (i - w)) + 1) max_extent) 0) (sym (lt-ltb i w l)) ∙ sym (capped-step w m (omega arith) i))

-- below a row that has its counts
module _ {w : ℕ} {m : List ℕ} {i to : ℕ} {e : List ℕ} (C : Counts w m i to e) (low : w ≤ i) where
  above-has : get_or e (i - w) 0 ≡ capped_count w m (i - w)
  above-has = let z = C.wide in C.counts (i - w) (omega arith) (omega arith)

  pub count-below : (v : ℕ) → v ≡ cond (ltb 0 (get_or m i 0)) (min (get_or e (i - w) 0 + 1) max_extent) 0 → v ≡ capped_count w m i
  unfolding is_ink
  count-below v q =
      q
      ∙ (ap (λ c. cond (is_ink m i) (min (c + 1) max_extent) 0) above-has
      ∙ (ap (λ b. cond (is_ink m i) (min (cond b 0 (capped_count w m (i - w)) + 1) max_extent) 0) (sym (le-ltb i w low)) ∙ sym (capped-step w m C.wide i)))

-- the dots that follow those just counted
pub counts-next : {w : ℕ} {m : List ℕ} {from to i : ℕ} {s e : List ℕ} (j : ℕ) → Counts w m from to s → Put (capped_count w m) from i s e → from ≤ i → i ≤ j → j ≤ to → Counts w m i j e
counts-next {w} {m} {from} {to} {i} {s} {e} j C P l a b =
    record {
      wide = C.wide;
      order = a;
      inside = let z = C.inside in omega arith;
      room = let z = C.room in let y = P.size in omega arith;
      counts = λ k x y. go k x y (dec_lt k from);
    }
  where
    go : (k : ℕ) → i ≤ k + w → k < i → Dec (k < from) → get_or e k 0 ≡ capped_count w m k
    go k x y (yes d) = P.lower k d ∙ C.counts k (omega arith) d
    go k x y (no d) = P.put k (omega arith) y

-- Extents, going up

-- above a row that has its extents
module _ {w h : ℕ} {m : List ℕ} {from i : ℕ} {e : List ℕ} (U : TakesUp w h m from i e) (low : from < i) (high : i + w ≤ w * h) where
  below-has : get_or e (i - 1 + w) 0 ≡ column_extent w h m (i - 1 + w)
  below-has = let b = U.wide in U.final (i - 1 + w) (omega arith) (omega arith)

  own-has : get_or e (i - 1) 0 ≡ capped_count w m (i - 1)
  own-has = U.counts (i - 1) (omega arith) (omega arith)

  pub take-above : (v : ℕ) → v ≡ cond (ltb 0 (get_or m (i - 1) 0) && ltb 0 (get_or m (i - 1 + w) 0)) (get_or e (i - 1 + w) 0) (get_or e (i - 1) 0) → v ≡ column_extent w h m (i - 1)
  unfolding is_ink
  take-above v r =
      r
      ∙ ((λ j. cond (is_ink m (i - 1) && is_ink m (i - 1 + w)) (below-has j) (own-has j))
      ∙ sym (extent-taken w m U.wide h U.size (i - 1) (omega arith)))

module _ {w h : ℕ} {m : List ℕ} {from to : ℕ} {s : List ℕ} (U : TakesUp w h m from to s) where
  -- the dots that come before those just taken up
  pub takes-next : {b : ℕ} {e : List ℕ} (a : ℕ) → Put (column_extent w h m) b to s e → from ≤ a → a ≤ b → b ≤ to → TakesUp w h m a b e
  takes-next {b} {e} a P x y z =
      record {
        wide = U.wide;
        few = U.few;
        size = U.size;
        order = y;
        inside = let q = U.inside in omega arith;
        room = let q = U.room in let r = P.size in omega arith;
        counts = λ k l u. P.lower k u ∙ U.counts k (omega arith) (omega arith);
        final = λ k l u. go k l u (dec_lt k to);
      }
    where
      go : (k : ℕ) → b ≤ k → k < w * h → Dec (k < to) → get_or e k 0 ≡ column_extent w h m k
      go k l u (yes d) = P.put k l d
      go k l u (no d) = P.upper k (omega arith) ∙ U.final k (omega arith) u

  -- where no dot goes on below, the counts are the extents
  pub take_none : ((k : ℕ) → from ≤ k → k < to → (is_ink m k && is_ink m (k + w)) ≡ false) → Put (column_extent w h m) from to s s
  take_none none =
      put_same from to s
      (λ k a c. U.counts k a c ∙ sym (extent-taken w m U.wide h U.size k (let q = U.inside in omega arith) ∙ ap (λ t. cond t (column_extent w h m (k + w)) (capped_count w m k)) (none k a c)))

  -- and so they are in the plane's last row
  pub take_last : w * h ≤ from + w → Put (column_extent w h m) from to s s
  take_last l = put_same from to s (λ k a c. U.counts k a c ∙ last_row w h m U.wide U.size k (let q = U.inside in omega arith) (omega arith))

-- the row of a band above those just taken up
pub takes-row : {w h : ℕ} {m : List ℕ} {start end y : ℕ} {s e : List ℕ} → TakesUp w h m (start * w) (end * w) s → Put (column_extent w h m) (y * w) (end * w) s e → start < y → y ≤ end → TakesUp w h m ((y - 1) * w) ((y - 1) * w + w) e
takes-row {w} {h} {m} {start} {end} {y} {s} {e} U P l u =
    let z : (y - 1) * w + w ≡ y * w = row_before w y (omega arith) in
    rw z (takes-next U ((y - 1) * w) P (mul-le-mul_right w (let q : start ≤ y - 1 = omega arith in q)) (omega arith) (mul-le-mul_right w u))

-- Rows

-- so many rows are no more than their dots
pub rows_fit : (w y : ℕ) → 0 < w → y ≤ y * w
rows_fit w y l = let a : y * 1 ≤ y * w = mul-le-mul_left y l in omega arith

pub last-row-ends : (w h y : ℕ) → y + 1 ≡ h → w * h ≤ y * w + w
last-row-ends w h y e = let a : y * w + w ≡ w * h = row_next w y ∙ (ap (λ k. k * w) e ∙ mul_comm h w) in omega arith

-- below a row that is not the last there is another
pub row_below : (w h y : ℕ) → 0 < w → y * w + w ≤ w * h → (y + 1 ≡ h → ⊥) → y * w + w + w ≤ w * h
row_below w h y wide l n =
    let a : (y + 1) * w ≤ h * w = (let p = row_next w y in let q = mul_comm h w in omega arith) in
    let b : y + 1 ≤ h = le_of_mul-le-mul_right a wide in
    let c = row_inside w h (y + 1) (omega arith) in
    let d = row_next w y in
    omega arith

-- The last row of a band

-- one row more of the band
pub columns-more : (w y x n r : ℕ) (m s : List ℕ) (k : ℕ) → x + n ≤ w → k < n → get_or s k 0 ≡ count_from w m y (x + k) r
    → cond (is_ink (take ((y + r) * w + x + n - ((y + r) * w + x)) (drop ((y + r) * w + x) m)) k) (get_or s k 0 + 1) 0 ≡ count_from w m y (x + k) (r + 1)
unfolding is_ink ink_at
columns-more w y x n r m s k l u q = (λ i. cond (ink i) (q i + 1) 0) ∙ sym (count_next (λ j. ink_at w m (x + k) (y + j)) r)
  where
    on : ink_at w m (x + k) (y + r) ≡ ltb 0 (get_or m ((y + r) * w + (x + k)) 0)
    on = rw (lt-ltb (x + k) w (omega arith))

    ink : is_ink (take ((y + r) * w + x + n - ((y + r) * w + x)) (drop ((y + r) * w + x) m)) k ≡ ink_at w m (x + k) (y + r)
    ink =
        ap (ltb 0)
        (get_or-part ((y + r) * w + x) ((y + r) * w + x + n - ((y + r) * w + x)) m k (omega arith)
        ∙ ap (λ j. get_or m j 0) (let z : (y + r) * w + x + k ≡ (y + r) * w + (x + k) = omega arith in z))
        ∙ sym on

-- what ends in column x before row y, capped
abbrev ends_before : ℕ → List ℕ → ℕ → ℕ → ℕ
ends_before w m x y = min (behind (ink_at w m x) y) max_extent

capped_at : (w x y : ℕ) (m : List ℕ) → x < w → capped_count w m (y * w + x) ≡ ends_before w m x (y + 1)
capped_at w x y m l =
    let z : suc y ≡ y + 1 = omega arith in
    (λ i. min (behind (ink_at w m (dot-column w x y l i)) (suc (dot-row w x y l i))) max_extent) ∙ ap (ends_before w m x) z

band-count : (w y x : ℕ) (m : List ℕ) → x < w → band_count (count_from w m y x 32) (ends_before w m x y) ≡ capped_count w m ((y + 31) * w + x)
band-count w y x m l =
    let q = count_from w m y x 32 in
    go q (eqb q 32)
    ∙ (ap (λ k. min k max_extent) (sym (behind-from (ink_at w m x) y 32))
    ∙ (ap (ends_before w m x) (let z : y + 32 ≡ y + 31 + 1 = omega arith in z) ∙ sym (capped_at w x (y + 31) m l)))
  where
    go : (q : ℕ) (t : Bool) → min (q + cond t (ends_before w m x y) 0) max_extent ≡ min (q + cond t (behind (ink_at w m x) y) 0) max_extent
    go q true = omega arith
    go q false = refl

module _ (w y x n : ℕ) (m counts e : List ℕ) (C : Counts w m (y * w) ((y + 32) * w) e) (narrow : x + n ≤ w)
    (held : (j : ℕ) → j < n → get_or counts j 0 ≡ count_from w m y (x + j) 32) where
  abbrev at : ℕ
  at = (y + 31) * w + x

  above-band : 0 < y → (j : ℕ) → j < n → get_or e ((y - 1) * w + x + j) 0 ≡ ends_before w m (x + j) y
  above-band l j u =
      let r = row_before w y l in
      let z : (y - 1) * w + x + j ≡ (y - 1) * w + (x + j) = omega arith in
      C.counts ((y - 1) * w + x + j) (omega arith) (omega arith)
      ∙ (ap (capped_count w m) z ∙ (capped_at w (x + j) (y - 1) m (omega arith) ∙ ap (ends_before w m (x + j)) (let s : y - 1 + 1 ≡ y = omega arith in s)))

  -- from the counts of the row above the band
  pub count-through-band : 0 < y → (k : ℕ) → (y + 31) * w + x ≤ k → k < (y + 31) * w + x + n
      → band_count (get_or counts (k - ((y + 31) * w + x)) 0) (get_or e ((y - 1) * w + x + (k - ((y + 31) * w + x))) 0) ≡ capped_count w m k
  count-through-band l k a b =
      let u : k - at < n = omega arith in
      let z : (y + 31) * w + (x + (k - at)) ≡ k = omega arith in
      (λ i. band_count (held (k - at) u i) (above-band l (k - at) u i)) ∙ (band-count w y (x + (k - at)) m (omega arith) ∙ ap (capped_count w m) z)

  -- the first band has none
  pub count-first-band : y ≡ 0 → (k : ℕ) → (y + 31) * w + x ≤ k → k < (y + 31) * w + x + n → get_or counts (k - ((y + 31) * w + x)) 0 ≡ capped_count w m k
  unfolding behind
  count-first-band o k a b =
      let u : k - at < n = omega arith in
      let z : (y + 31) * w + (x + (k - at)) ≡ k = omega arith in
      let q = count_from w m y (x + (k - at)) 32 in
      let none : ends_before w m (x + (k - at)) y ≡ 0 = ap (ends_before w m (x + (k - at))) o in
      held (k - at) u ∙ (few q (behind-le (λ j. ink_at w m (x + (k - at)) (y + j)) 32) (eqb q 32) ∙ (ap (band_count q) (sym none) ∙ (band-count w y (x + (k - at)) m (omega arith) ∙ ap (capped_count w m) z)))
    where
      few : (q : ℕ) → q ≤ 32 → (t : Bool) → q ≡ min (q + cond t 0 0) max_extent
      few q h true = omega arith
      few q h false = omega arith

-- Bands

module _ {w h : ℕ} {m s e : List ℕ} (F : MaskFits w h (length m) (length s)) where
  module _ {y : ℕ} (B : BandsCounted w m y s e) (whole : y % 32 ≡ 0) (room : y + 32 ≤ h) where
    band-inside : (y + 32) * w ≤ length m
    band-inside = let a : (y + 32) * w ≤ h * w = mul-le-mul_right w room in let b = mul_comm h w in omega (arith, F.dots)

    -- one band more
    pub bands-more : {t : List ℕ} → Put (capped_count w m) ((y + 31) * w) ((y + 31) * w + w) e t → BandsCounted w m (y + 32) s t
    bands-more {t} P =
        record {
          size = P.size ∙ B.size;
          counted = λ b z l k u v. go b z l k u v (dec_lt y b);
          past = λ k l. P.upper k (let z = band-inside in omega arith) ∙ B.past k l;
        }
      where
        go : (b : ℕ) → b % 32 ≡ 0 → b ≤ y + 32 → (k : ℕ) → b * w ≤ k + w → k < b * w → Dec (y < b) → get_or t k 0 ≡ capped_count w m k
        go b z l k u v (yes d) =
            let q : b * w ≡ (y + 32) * w = ap (λ t. t * w) (let r : b ≡ y + 32 = omega arith in r) in
            P.put k (omega arith) (omega arith)
        go b z l k u v (no d) =
            let q : b * w ≤ y * w = mul-le-mul_right w (let r : b ≤ y = omega arith in r) in
            P.lower k (omega arith) ∙ B.counted b z (omega arith) k u v

-- the bands from row `end` on have their extents
pub record BandsDone (w h : ℕ) (m : List ℕ) (end : ℕ) (old new : List ℕ) : Type 0 where
  pub bands : BandsCounted w m end old new
  pub final : (k : ℕ) → end * w ≤ k → k < w * h → get_or new k 0 ≡ column_extent w h m k

pub done-ends : {w h a b : ℕ} {m s e : List ℕ} → BandsDone w h m a s e → a ≡ b → BandsDone w h m b s e
done-ends {w} {h} {a} {b} {m} {s} {e} D q = subst (λ k. BandsDone w h m k s e) q D

pub plane-kept : {w h n a b : ℕ} → MaskFits w h n a → b ≡ a → MaskFits w h n b
plane-kept F e = record { wide = F.wide; narrow = F.narrow; high = F.high; low = F.low; few = F.few; dots = F.dots; room = let z = F.room in omega arith }

module _ {w h end : ℕ} {m s e : List ℕ} (F : MaskFits w h (length m) (length s)) (D : BandsDone w h m end s e) (inside : end ≤ h) (start : ℕ) (order : start ≤ end) (whole : start % 32 ≡ 0) where
  upto : end * w ≤ w * h
  upto = let a : end * w ≤ h * w = mul-le-mul_right w inside in let b = mul_comm h w in omega arith

  pub band-counts : Counts w m (start * w) (end * w) e
  band-counts =
      record {
        wide = F.wide;
        order = mul-le-mul_right w order;
        inside = omega (arith, F.dots, upto);
        room = omega (arith, F.dots, F.room, D.bands.size);
        counts = D.bands.counted start whole order;
      }

  module _ {t : List ℕ} (P : Put (capped_count w m) (start * w) (end * w) e t) where
    -- one band more
    pub band-done : {o : List ℕ} → Put (column_extent w h m) (start * w) (end * w) t o → BandsDone w h m start s o
    band-done {o} Q =
        record {
          bands =
              record {
                size = Q.size ∙ (P.size ∙ D.bands.size);
                counted = λ b z l k u v. let r : b * w ≤ start * w = mul-le-mul_right w l in Q.lower k (omega arith) ∙ (P.lower k (omega arith) ∙ D.bands.counted b z (omega arith) k u v);
                past = λ k l. let r = upto in let f = F.dots in Q.upper k (omega arith) ∙ (P.upper k (omega arith) ∙ D.bands.past k l);
              };
          final = λ k l u. go k l u (dec_lt k (end * w));
        }
      where
        go : (k : ℕ) → start * w ≤ k → k < w * h → Dec (k < end * w) → get_or o k 0 ≡ column_extent w h m k
        go k l u (yes d) = Q.put k l d
        go k l u (no d) = Q.upper k (omega arith) ∙ (P.upper k (omega arith) ∙ D.final k (omega arith) u)

-- every band
pub bands-done : {w h end : ℕ} {m s t e : List ℕ} → MaskFits w h (length m) (length s) → BandsCounted w m h s t → BandsDone w h m end t e → end ≡ 0 → e ≡ over (column_extents w h m) s
unfolding column_extents
bands-done {w} {h} {end} {m} {s} {t} {e} F B D o =
    let z : end * w ≡ 0 * w = ap (λ k. k * w) o in
    over-unique (column_extent w h m) (w * h) s e F.room (D.bands.size ∙ B.size) (λ k l. D.final k (omega arith) l)
    (λ k l. let d : length m ≤ k = omega (arith, F.dots) in D.bands.past k d ∙ B.past k d)

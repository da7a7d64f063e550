-- Rows or columns walked alike: where dots lie, marks dot by dot, runs found from probes, extents that are kept.
use mathlib.Core.Path.{◌≡◌, refl, sym, ap, ◌∙◌, subst}
use mathlib.Core.Bool.{Bool, true, false, cond, not, ◌&&◌, ◌||◌, true≢false}
use mathlib.Core.List.{List}
use Prim.Native.Nat.{ℕ, zero, suc, ◌+◌, ◌-◌, ◌*◌, ◌/◌, ◌%◌, ◌≤◌, ◌<◌, min}
use native.Mathlib.Nat.{le_refl, div-eq_of_lt-le, div-lt_iff_lt-mul, div-add-mod', mod-lt, mul_comm, mul-le-mul_right}
use native.Mathlib.Decide.{ℕ_discrete, dec_lt, dec_le}
use native.Mathlib.Omega.{arith}
use borrow.Author.Tests.{lt-ltb, le-ltb, le-leb, lt-leb, not-true, not-false}
use borrow.Rule.Slice.PartMut.{put_mid}
use lib.ListN.{length, get_or, take, drop, set, length-set, length-drop}
use lib.Seq.{get_or-set_same, get_or-set_other, get_or-drop}
use lib.Dec.{ltb, leb}
use Rattle.memory.specs.rules.Lists.{table}
use Rattle.memory.specs.rules.Words.{over}
use Rattle.memory.specs.rules.Limits.{max_extent, max_mask_side, max_mask_dots}
use Rattle.memory.specs.rules.Masks.{is_ink}
use Rattle.extents.specs.rules.Extents.{Plane, ink_at, behind, ahead, run_through, extent}
use Rattle.rulings.specs.rules.Rulings.{transposed, widened, in_thin_ruling, cut_horizontal, cut_vertical}
use Rattle.rulings.specs.stages.Marks.{cut_mark, Blank}
use Rattle.extents.specs.stages.Scans.{ScannedTo, Starts, clear, blank, MaskFits}
use Rattle.rulings.specs.stages.Sweeps.{sweep_down, sweep_across, spot_of, plane_of, widened_scanline, is_thin, is_ruling, Laid, ScannedBack, Cached, Marked, Unmarked, Walked}
use Rattle.rulings.specs.declared.plane.Sweep.{Sweep}
use Rattle.memory.proofs.PlaneLaws.{dot-column, dot-row, dot-inside}
use Rattle.extents.proofs.MaskLaws.{is_ink-mask_of}
use Rattle.extents.proofs.OverLaws.{over-unique}
use Rattle.memory.proofs.StoredLaws.{stored_at, stored-filled}
use Rattle.extents.proofs.RunLaws.{behind-off, ahead-on, ahead-off, ahead-le, run_through-on, run_through-next, run_through-ends, run_through-between, run_through-last, starts-run}
use Rattle.extents.proofs.ExtentLaws.{row_next, ink-past}

-- Dots counted scanline by scanline

count-apart : (n i o j q : ℕ) → i < n → j < n → o * n + i ≡ q * n + j → (i ≡ j) × (o ≡ q)
count-apart n i o j q a b e =
    (sym (dot-column n i o a) ∙ (ap (λ k. k % n) e ∙ dot-column n j q b), sym (dot-row n i o a) ∙ (ap (λ k. k / n) e ∙ dot-row n j q b))

-- a count within one scanline
pub count-scanline : (n o x s i q : ℕ) → s ≤ n → i < n → o * n + x ≤ q * n + i → q * n + i < o * n + s → (q ≡ o) × (x ≤ i) × (i < s)
count-scanline n o x s i q h l a b =
    let z : (o + 1) * n ≡ o * n + n = sym (row_next n o) in
    let e : q ≡ o = sym (dot-row n i q l) ∙ div-eq_of_lt-le {k = o} n {m = q * n + i} (omega arith) (omega arith) in
    let f : q * n ≡ o * n = ap (λ k. k * n) e in
    (e, omega arith, omega arith)

-- a range in two parts
pub range_split : (c d f : ℕ) → c ≤ d → d ≤ f → (v : ℕ) (t : Bool) (k : ℕ) → cond (leb c k && ltb k d && t) v 0 + cond (leb d k && ltb k f && t) v 0 ≡ cond (leb c k && ltb k f && t) v 0
range_split c d f x y v t k = go (dec_le c k) (dec_lt k d) (dec_lt k f)
  where
    go : Dec (c ≤ k) → Dec (k < d) → Dec (k < f) → cond (leb c k && ltb k d && t) v 0 + cond (leb d k && ltb k f && t) v 0 ≡ cond (leb c k && ltb k f && t) v 0
    go (yes r) (yes s) u = rw (le-leb c k r, lt-ltb k d s, lt-leb d k (omega arith), lt-ltb k f (omega arith)) (omega arith)
    go (yes r) (no s) (yes u) = rw (le-leb c k r, le-ltb k d (omega arith), le-leb d k (omega arith), lt-ltb k f u) (omega arith)
    go (yes r) (no s) (no u) = rw (le-leb c k r, le-ltb k d (omega arith), le-leb d k (omega arith), le-ltb k f (omega arith)) refl
    go (no r) s u = rw (lt-leb c k (omega arith), lt-leb d k (omega arith)) refl

-- Marks

-- words that neither walk changed, where neither tells that it marked a dot
pub still_both : (a b : Bool) (x y z : List ℕ) → (a ≡ false → y ≡ x) → (b ≡ false → z ≡ y) → (a || b) ≡ false → z ≡ x
still_both true b x y z f k e = absurd (true≢false e)
still_both false b x y z f k e = k e ∙ f refl

module _ (g : Sweep) (n : ℕ) where
  -- nothing is marked where no dot passes the test
  pub marked-none : (p : Plane) (v : ℕ) (a : List ℕ) (c d : ℕ) → ((i o : ℕ) → i < g.inner → o < g.outer → c ≤ o * g.inner + i → o * g.inner + i < d → p i o ≡ false) → Marked g n p v a a c d
  marked-none p v a c d h = record { size = refl; each = each; past = λ k l. refl }
    where
      each : (i o : ℕ) → i < g.inner → o < g.outer → get_or a (spot_of g i o) 0 ≡ get_or a (spot_of g i o) 0 + cond (leb c (o * g.inner + i) && ltb (o * g.inner + i) d && p i o) v 0
      each i o l k = go (dec_le c (o * g.inner + i)) (dec_lt (o * g.inner + i) d)
        where
          go : Dec (c ≤ o * g.inner + i) → Dec (o * g.inner + i < d) → get_or a (spot_of g i o) 0 ≡ get_or a (spot_of g i o) 0 + cond (leb c (o * g.inner + i) && ltb (o * g.inner + i) d && p i o) v 0
          go (yes x) (yes y) = rw (le-leb _ _ x, lt-ltb _ _ y, h i o l k x y) (omega arith)
          go (yes x) (no y) = rw (le-leb _ _ x, le-ltb (o * g.inner + i) d (omega arith)) (omega arith)
          go (no x) y = rw (lt-leb c (o * g.inner + i) (omega arith)) (omega arith)

  -- one after the other
  pub marked-trans : (p : Plane) (v : ℕ) (a b e : List ℕ) (c d f : ℕ) → c ≤ d → d ≤ f → Marked g n p v a b c d → Marked g n p v b e d f → Marked g n p v a e c f
  marked-trans p v a b e c d f x y A B = record { size = B.size ∙ A.size; each = each; past = λ k l. B.past k l ∙ A.past k l }
    where
      each : (i o : ℕ) → i < g.inner → o < g.outer → get_or e (spot_of g i o) 0 ≡ get_or a (spot_of g i o) 0 + cond (leb c (o * g.inner + i) && ltb (o * g.inner + i) f && p i o) v 0
      each i o l k = let r = A.each i o l k in let s = B.each i o l k in let t = range_split c d f x y v (p i o) (o * g.inner + i) in omega arith

  -- by another test that says the same there
  pub marked-ext : (p q : Plane) (v : ℕ) (a b : List ℕ) (c d : ℕ) → ((i o : ℕ) → i < g.inner → o < g.outer → c ≤ o * g.inner + i → o * g.inner + i < d → q i o ≡ p i o) → Marked g n q v a b c d → Marked g n p v a b c d
  marked-ext p q v a b c d h A = record { size = A.size; each = λ i o l k. A.each i o l k ∙ same i o l k (dec_le c (o * g.inner + i)) (dec_lt (o * g.inner + i) d); past = A.past }
    where
      same : (i o : ℕ) → i < g.inner → o < g.outer → Dec (c ≤ o * g.inner + i) → Dec (o * g.inner + i < d)
          → get_or a (spot_of g i o) 0 + cond (leb c (o * g.inner + i) && ltb (o * g.inner + i) d && q i o) v 0 ≡ get_or a (spot_of g i o) 0 + cond (leb c (o * g.inner + i) && ltb (o * g.inner + i) d && p i o) v 0
      same i o l k (yes x) (yes y) = rw (h i o l k x y)
      same i o l k (yes x) (no y) = rw (le-leb _ _ x, le-ltb (o * g.inner + i) d (omega arith))
      same i o l k (no x) y = rw (lt-leb c (o * g.inner + i) (omega arith))

  -- one dot, marked where it passes the test
  pub marked-dot : Laid g n → (p : Plane) (v : ℕ) (a b : List ℕ) (i o : ℕ) → i < g.inner → o < g.outer → n ≤ length a
      → b ≡ cond (p i o) (set a (spot_of g i o) (get_or a (spot_of g i o) 0 + v)) a → Marked g n p v a b (o * g.inner + i) (o * g.inner + (i + 1))
  marked-dot L p v a b i o li lo room e = go (p i o) refl e
    where
      inside : spot_of g i o < n
      inside = L.inside i o li lo

      go : (t : Bool) → p i o ≡ t → b ≡ cond t (set a (spot_of g i o) (get_or a (spot_of g i o) 0 + v)) a → Marked g n p v a b (o * g.inner + i) (o * g.inner + (i + 1))
      go false f z =
          rw z
          (marked-none p v a (o * g.inner + i) (o * g.inner + (i + 1))
          (λ j q lj lq x y. let r = count-apart g.inner j q i o lj li (omega arith) in (λ k. p (r.0 k) (r.1 k)) ∙ f))
      go true f z =
          rw z
          (record {
            size = length-set a (spot_of g i o) (get_or a (spot_of g i o) 0 + v);
            each = λ j q lj lq. at j q lj lq (ℕ_discrete (q * g.inner + j) (o * g.inner + i));
            past = λ k l. get_or-set_other a (spot_of g i o) k (get_or a (spot_of g i o) 0 + v) 0 (λ x. absurd (omega (arith, inside)));
          })
        where
          at : (j q : ℕ) → j < g.inner → q < g.outer → Dec (q * g.inner + j ≡ o * g.inner + i)
              → get_or (set a (spot_of g i o) (get_or a (spot_of g i o) 0 + v)) (spot_of g j q) 0 ≡ get_or a (spot_of g j q) 0 + cond (leb (o * g.inner + i) (q * g.inner + j) && ltb (q * g.inner + j) (o * g.inner + (i + 1)) && p j q) v 0
          at j q lj lq (yes x) =
              let r = count-apart g.inner j q i o lj li x in
              let pt : p j q ≡ true = (λ k. p (r.0 k) (r.1 k)) ∙ f in
              let sp : spot_of g j q ≡ spot_of g i o = (λ k. spot_of g (r.0 k) (r.1 k)) in
              ap (λ k. get_or (set a (spot_of g i o) (get_or a (spot_of g i o) 0 + v)) k 0) sp
              ∙ (get_or-set_same a (spot_of g i o) (get_or a (spot_of g i o) 0 + v) 0 (omega (arith, inside))
              ∙ (ap (λ k. get_or a k 0 + v) (sym sp)
              ∙ sym (rw (le-leb (o * g.inner + i) (q * g.inner + j) (omega arith), lt-ltb (q * g.inner + j) (o * g.inner + (i + 1)) (omega arith), pt) refl)))
          at j q lj lq (no x) =
              get_or-set_other a (spot_of g i o) (spot_of g j q) (get_or a (spot_of g i o) 0 + v) 0 (λ y. let r = L.apart j q i o lj lq li lo y in x (λ k. r.1 k * g.inner + r.0 k))
              ∙ other (dec_le (o * g.inner + i) (q * g.inner + j))
            where
              other : Dec (o * g.inner + i ≤ q * g.inner + j) → get_or a (spot_of g j q) 0 ≡ get_or a (spot_of g j q) 0 + cond (leb (o * g.inner + i) (q * g.inner + j) && ltb (q * g.inner + j) (o * g.inner + (i + 1)) && p j q) v 0
              other (yes y) = rw (le-leb _ _ y, le-ltb (q * g.inner + j) (o * g.inner + (i + 1)) (omega arith)) (omega arith)
              other (no y) = rw (lt-leb (o * g.inner + i) (q * g.inner + j) (omega arith)) (omega arith)

  -- what is not marked yet can still be marked
  pub unmarked-later : (p : Plane) (v : ℕ) (a b : List ℕ) (c d : ℕ) → c ≤ d → Marked g n p v a b c d → Unmarked g n a c → Unmarked g n b d
  unmarked-later p v a b c d h A U = record { room = let s = A.size in let r = U.room in omega arith; small = small }
    where
      small : (i o : ℕ) → i < g.inner → o < g.outer → d ≤ o * g.inner + i → get_or b (spot_of g i o) 0 ≤ 2
      small i o l k x =
          let e : get_or b (spot_of g i o) 0 ≡ get_or a (spot_of g i o) 0 + 0 = A.each i o l k ∙ rw (le-leb c (o * g.inner + i) (omega arith), le-ltb (o * g.inner + i) d x) refl in
          let u = U.small i o l k (omega arith) in
          omega arith

-- Ink by place and scanline

pub plane-inside : (g : Sweep) (m : List ℕ) (i o : ℕ) → i < g.inner → o < g.outer → plane_of g m i o ≡ is_ink m (spot_of g i o)
unfolding plane_of
plane-inside g m i o a b = rw (lt-ltb i g.inner a, lt-ltb o g.outer b)

pub plane-past : (g : Sweep) (m : List ℕ) (i o : ℕ) → g.inner ≤ i → plane_of g m i o ≡ false
unfolding plane_of
plane-past g m i o a = rw (le-ltb i g.inner a)

pub plane-below : (g : Sweep) (m : List ℕ) (i o : ℕ) → g.outer ≤ o → plane_of g m i o ≡ false
unfolding plane_of
plane-below g m i o a = rw (le-ltb o g.outer a) (and-off (ltb i g.inner))
  where
    and-off : (b : Bool) → (b && false && is_ink m (spot_of g i o)) ≡ false
    and-off true = refl
    and-off false = refl

pub widened-past : (g : Sweep) (m : List ℕ) (o i : ℕ) → g.inner ≤ i → widened_scanline g m o i ≡ false
unfolding widened
widened-past g m o i a = rw (plane-past g m i o a, plane-past g m i (o - 1) a, plane-past g m i (o + 1) a)

-- the scanline before is the first scanline itself at scanline 0, and past the last scanline there is no ink
pub widened-scanlines : (g : Sweep) (m : List ℕ) (i o up down : ℕ) → up ≡ o - 1 → (o + 1 < g.outer → down ≡ o + 1) → (g.outer ≤ o + 1 → down ≡ o)
    → widened (plane_of g m) i o ≡ (plane_of g m i o || plane_of g m i up || plane_of g m i down)
unfolding widened
widened-scanlines g m i o up down a b c = rw a (go (dec_lt (o + 1) g.outer))
  where
    absorbed : (x y : Bool) → (x || y || false) ≡ (x || y || x)
    absorbed true y = refl
    absorbed false true = refl
    absorbed false false = refl

    go : Dec (o + 1 < g.outer) → (plane_of g m i o || plane_of g m i (o - 1) || plane_of g m i (o + 1)) ≡ (plane_of g m i o || plane_of g m i (o - 1) || plane_of g m i down)
    go (yes l) = rw (b l)
    go (no l) = rw (c (omega arith), plane-below g m i (o + 1) (omega arith)) (absorbed (plane_of g m i o) (plane_of g m i (o - 1)))

-- Runs from probes

scanned-off : (p : ℕ → Bool) (x n e : ℕ) → ScannedTo p true x n e → p n ≡ false → p e ≡ false
scanned-off p x n e A z = go (dec_lt e n)
  where
    go : Dec (e < n) → p e ≡ false
    go (yes l) = A.stop l
    go (no l) = ap p (let h = A.high in let q : e ≡ n = omega arith in q) ∙ z

-- no run of r before s, where the probe from the start x came back to s
pub back-short : (q : ℕ → Bool) (n x r s : ℕ) → Starts q x → ScannedBack q x (x + r) s → x < s → (i : ℕ) → x ≤ i → i < s → run_through q n i < r
back-short q n x r s S B l i y z =
    let k = B.high in let b = run_through-between q n x (s - 1) i S (B.stop (s - 1) (omega arith) (omega arith)) y (omega arith) in omega arith

-- and s is a start
pub back-starts : (q : ℕ → Bool) (x to s : ℕ) → ScannedBack q x to s → x < s → Starts q s
back-starts q x to s B l = clear (let e : suc (s - 1) ≡ s = omega arith in ap (behind q) (sym e) ∙ behind-off q (s - 1) (B.stop (s - 1) (omega arith) (omega arith)))

module _ (g : Sweep) (m : List ℕ) (run_min thick_max v o x : ℕ) (S : Starts (widened_scanline g m o) x) where
  abbrev q : ℕ → Bool
  q = widened_scanline g m o

  abbrev ruling : Plane
  ruling = is_ruling g m run_min thick_max

  long-ruling : (i : ℕ) → run_min ≤ run_through q g.inner i → is_thin g m thick_max i o ≡ ruling i o
  unfolding is_thin in_thin_ruling
  long-ruling i h = rw (le-leb run_min (run_through q g.inner i) h) (and-on (plane_of g m i o))
    where
      and-on : (b : Bool) → (b && leb (extent (plane_of g m i) g.outer o) thick_max) ≡ (b && true && leb (extent (plane_of g m i) g.outer o) thick_max)
      and-on true = refl
      and-on false = refl

  short-ruling : (i : ℕ) → run_through q g.inner i < run_min → ruling i o ≡ false
  unfolding in_thin_ruling
  short-ruling i h = rw (lt-leb run_min (run_through q g.inner i) h) (and-off (plane_of g m i o))
    where
      and-off : (b : Bool) → (b && false && leb (extent (plane_of g m i) g.outer o) thick_max) ≡ false
      and-off true = refl
      and-off false = refl

  -- a run of at least run_min from x up to e: its thin dots are those of a ruling
  pub walked-long : (e : ℕ) (a b : List ℕ) → x + run_min ≤ g.inner → 0 < run_min → ScannedBack q x (x + run_min) x → ScannedTo q true (x + run_min) g.inner e
      → Marked g (length m) (is_thin g m thick_max) v a b (o * g.inner + x) (o * g.inner + e) → Walked g m run_min thick_max v o x e a b
  walked-long e a b h r B E A =
      record {
        further = let l = E.low in omega arith;
        inside = E.high;
        starts = blank off;
        marked =
            marked-ext g (length m) ruling (is_thin g m thick_max) v a b (o * g.inner + x) (o * g.inner + e)
            (λ i j li lj y z. let w = count-scanline g.inner o x e i j E.high li y z in ap (is_thin g m thick_max i) w.0 ∙ (long-ruling i (long i w.1 w.2) ∙ ap (ruling i) (sym w.0))) A;
      }
    where
      off : q e ≡ false
      off = scanned-off q (x + run_min) g.inner e E (widened-past g m o g.inner (le_refl g.inner))

      all : (k : ℕ) → x ≤ k → k < e → q k ≡ true
      all k y z = go (dec_lt k (x + run_min))
        where
          go : Dec (k < x + run_min) → q k ≡ true
          go (yes l) = B.all k y l
          go (no l) = E.all k (omega arith) z

      long : (i : ℕ) → x ≤ i → i < e → run_min ≤ run_through q g.inner i
      long i y z =
          let l = E.low in
          let s = run_through-ends q g.inner x e E.high (starts-run q x S (all x (le_refl x) (omega arith))) (ahead-off q e (g.inner - e) off) all i y z in
          omega arith

  -- no run of run_min before s
  pub walked-short : (s : ℕ) (a : List ℕ) → x + run_min ≤ g.inner → ScannedBack q x (x + run_min) s → x < s → Walked g m run_min thick_max v o x s a a
  walked-short s a h B l =
      record {
        further = l;
        inside = let k = B.high in omega arith;
        starts = back-starts q x (x + run_min) s B l;
        marked =
            marked-none g (length m) ruling v a (o * g.inner + x) (o * g.inner + s)
            (λ i j li lj y z. let k = B.high in let w = count-scanline g.inner o x s i j (omega arith) li y z in ap (ruling i) w.0 ∙ short-ruling i (back-short q g.inner x run_min s S B l i w.1 w.2));
      }

  -- nor where less than run_min is left of the scanline
  pub marked-rest : (a : List ℕ) → x ≤ g.inner → g.inner < x + run_min → Marked g (length m) ruling v a a (o * g.inner + x) (o * g.inner + g.inner)
  marked-rest a h l =
      marked-none g (length m) ruling v a (o * g.inner + x) (o * g.inner + g.inner)
      (λ i j li lj y z. let w = count-scanline g.inner o x g.inner i j (le_refl g.inner) li y z in
      ap (ruling i) w.0
      ∙ short-ruling i (let r = run_through-last q g.inner x i S (widened-past g m o g.inner (le_refl g.inner)) w.1 li in omega arith))

-- Extents across, kept

-- the places that are counted ahead pass the test
ahead-all : (p : ℕ → Bool) (x n j : ℕ) → j < ahead p x n → p (x + j) ≡ true
ahead-all p x zero j l = let a = ahead-le p x 0 in absurd (omega arith)
ahead-all p x (suc n) j l = go (p x) refl j l (ahead-all p (suc x) n)
  where
    go : (b : Bool) → p x ≡ b → (j : ℕ) → j < ahead p x (suc n) → ((k : ℕ) → k < ahead p (suc x) n → p (suc x + k) ≡ true) → p (x + j) ≡ true
    go false e j l f = let a = ahead-off p x (suc n) e in absurd (omega arith)
    go true e zero l f = ap p (let z : x + 0 ≡ x = omega arith in z) ∙ e
    go true e (suc j) l f = let a = ahead-on p x n e in ap p (let z : x + suc j ≡ suc x + j = omega arith in z) ∙ f j (omega arith)

-- one run has one length
run_along : (p : ℕ → Bool) (n o d : ℕ) → p o ≡ true → o + d < n → d ≤ ahead p (o + 1) (n - (o + 1)) → run_through p n (o + d) ≡ run_through p n o
run_along p n o zero on l h = ap (run_through p n) (let z : o + 0 ≡ o = omega arith in z)
run_along p n o (suc d) on l h =
    ap (run_through p n) (let z : o + suc d ≡ suc (o + d) = omega arith in z)
    ∙ (sym (run_through-next p n (o + d) (omega arith) (here d (omega arith)) (ap p (let z : suc (o + d) ≡ o + 1 + d = omega arith in z) ∙ ahead-all p (o + 1) (n - (o + 1)) d (omega arith)))
    ∙ run_along p n o d on (omega arith) (omega arith))
  where
    here : (k : ℕ) → k ≤ ahead p (o + 1) (n - (o + 1)) → p (o + k) ≡ true
    here zero b = ap p (let z : o + 0 ≡ o = omega arith in z) ∙ on
    here (suc k) b = ap p (let z : o + suc k ≡ o + 1 + k = omega arith in z) ∙ ahead-all p (o + 1) (n - (o + 1)) k (omega arith)

-- a run through x, by what lies before and after it
pub run-around : (p : ℕ → Bool) (n x : ℕ) → x < n → p x ≡ true → run_through p n x ≡ behind p x + 1 + ahead p (x + 1) (n - (x + 1))
run-around p n x l on =
    let z : n - x ≡ suc (n - (x + 1)) = omega arith in
    let y : suc x ≡ x + 1 = omega arith in
    let a : ahead p x (n - x) ≡ suc (ahead p (x + 1) (n - (x + 1))) = ap (ahead p x) z ∙ (ahead-on p x (n - (x + 1)) on ∙ ap (λ k. suc (ahead p k (n - (x + 1)))) y) in
    let r = run_through-on p n x on in
    omega arith

-- an extent that counts no more than `most` on either side is at most `most` where the extent is
bounded-thin : (b a most r before after v : ℕ) → r ≡ b + 1 + a → before ≡ min b most → after ≡ min a most → v ≡ min (before + 1 + after) max_extent → leb v most ≡ leb (min r max_extent) most
bounded-thin b a most r before after v e f h k = go (dec_le v most)
  where
    go : Dec (v ≤ most) → leb v most ≡ leb (min r max_extent) most
    go (yes l) = le-leb v most l ∙ sym (le-leb (min r max_extent) most (omega arith))
    go (no l) = lt-leb v most (omega arith) ∙ sym (lt-leb (min r max_extent) most (omega arith))

module _ (g : Sweep) (m : List ℕ) (thick_max i o before after : ℕ) (lo : o < g.outer) (on : plane_of g m i o ≡ true) (B : before ≡ min (behind (plane_of g m i) o) thick_max)
    (A : after ≡ min (ahead (plane_of g m i) (o + 1) (g.outer - (o + 1))) thick_max) where
  -- as far as the run is known to go on, it is as thick or thin
  pub run-thin : (v d : ℕ) → v ≡ min (before + 1 + after) max_extent → d ≤ after → leb v thick_max ≡ leb (extent (plane_of g m i) g.outer (o + d)) thick_max
  unfolding extent
  run-thin v d z h =
      let a = ahead-le (plane_of g m i) (o + 1) (g.outer - (o + 1)) in
      let r = run_along (plane_of g m i) g.outer o d on (omega arith) (omega arith) in
      let s = run-around (plane_of g m i) g.outer o lo on in
      bounded-thin (behind (plane_of g m i) o) (ahead (plane_of g m i) (o + 1) (g.outer - (o + 1))) thick_max (run_through (plane_of g m i) g.outer (o + d)) before after v (r ∙ s) B A z

  -- the run that was met is kept
  pub cached-run : (cache : List ℕ) (v : ℕ) → i < g.inner → v ≡ min (before + 1 + after) max_extent → Cached g m thick_max o cache → Cached g m thick_max o (set (set cache i (o + 1 + after)) (g.inner + i) v)
  cached-run cache v l z C =
      record {
        room = let a = C.room in rw (length-set (set cache i (o + 1 + after)) (g.inner + i) v, length-set cache i (o + 1 + after)) a;
        told = λ j q lj h k. go j q lj h k (ℕ_discrete j i);
      }
    where
      room : g.inner + i < length (set cache i (o + 1 + after))
      room = rw (length-set cache i (o + 1 + after)) (let a = C.room in omega arith)

      end : (j : ℕ) → j < g.inner → get_or (set (set cache i (o + 1 + after)) (g.inner + i) v) j 0 ≡ get_or (set cache i (o + 1 + after)) j 0
      end j lj = get_or-set_other (set cache i (o + 1 + after)) (g.inner + i) j v 0 (λ x. omega arith)

      thin : (q : ℕ) → o ≤ q → q < o + 1 + after → leb v thick_max ≡ leb (extent (plane_of g m i) g.outer q) thick_max
      thin q h k = run-thin v (q - o) z (omega arith) ∙ ap (λ t. leb (extent (plane_of g m i) g.outer t) thick_max) (let y : o + (q - o) ≡ q = omega arith in y)

      go : (j q : ℕ) → j < g.inner → o ≤ q → q < get_or (set (set cache i (o + 1 + after)) (g.inner + i) v) j 0 → Dec (j ≡ i)
          → leb (get_or (set (set cache i (o + 1 + after)) (g.inner + i) v) (g.inner + j) 0) thick_max ≡ leb (extent (plane_of g m j) g.outer q) thick_max
      go j q lj h k (yes d) =
          let a : get_or (set (set cache i (o + 1 + after)) (g.inner + i) v) j 0 ≡ o + 1 + after = end j lj ∙ (ap (λ t. get_or (set cache i (o + 1 + after)) t 0) d ∙ get_or-set_same cache i (o + 1 + after) 0 (let a = C.room in omega arith)) in
          ap (λ t. leb t thick_max) (ap (λ t. get_or (set (set cache i (o + 1 + after)) (g.inner + i) v) (g.inner + t) 0) d ∙ get_or-set_same (set cache i (o + 1 + after)) (g.inner + i) v 0 room)
          ∙ (thin q h (omega arith) ∙ ap (λ t. leb (extent (plane_of g m t) g.outer q) thick_max) (sym d))
      go j q lj h k (no d) =
          let a : get_or (set (set cache i (o + 1 + after)) (g.inner + i) v) j 0 ≡ get_or cache j 0 = end j lj ∙ get_or-set_other cache i j (o + 1 + after) 0 d in
          ap (λ t. leb t thick_max) (get_or-set_other (set cache i (o + 1 + after)) (g.inner + i) (g.inner + j) v 0 (λ x. d (omega arith)) ∙ get_or-set_other cache i (g.inner + j) (o + 1 + after) 0 (λ x. omega arith))
          ∙ C.told j q lj h (omega arith)

-- what is kept holds for later scanlines too
pub cached-later : (g : Sweep) (m : List ℕ) (thick_max o q : ℕ) (cache : List ℕ) → o ≤ q → Cached g m thick_max o cache → Cached g m thick_max q cache
cached-later g m thick_max o q cache h C = record { room = C.room; told = λ i r l a b. C.told i r l (omega arith) b }

-- the test of a dot, as the code has it
pub test-off : (t b : Bool) → t ≡ b → not t ≡ true → b ≡ false
test-off t b e f = sym e ∙ not-true t f

pub test_on : (t b : Bool) → t ≡ b → not t ≡ false → b ≡ true
test_on t b e f = sym e ∙ not-false t f

-- One dot

module _ (g : Sweep) (m : List ℕ) (thick_max i o thickness : ℕ) (x y : List ℕ) where
  pub dot-cut : plane_of g m i o ≡ true → leb thickness thick_max ≡ leb (extent (plane_of g m i) g.outer o) thick_max → thickness ≤ thick_max → x ≡ cond (is_thin g m thick_max i o) x y
  unfolding is_thin
  dot-cut a b c = rw (a, sym b, le-leb thickness thick_max c)

  pub dot-thick : plane_of g m i o ≡ true → leb thickness thick_max ≡ leb (extent (plane_of g m i) g.outer o) thick_max → thick_max < thickness → y ≡ cond (is_thin g m thick_max i o) x y
  unfolding is_thin
  dot-thick a b c = rw (a, sym b, lt-leb thickness thick_max c)

  pub dot-blank : plane_of g m i o ≡ false → y ≡ cond (is_thin g m thick_max i o) x y
  unfolding is_thin
  dot-blank a = rw a

-- one dot more of a run
pub run-loop : (g : Sweep) (n : ℕ) (p : Plane) (v : ℕ) (a b e : List ℕ) (from i o : ℕ) → Laid g n → from ≤ i → i < g.inner → o < g.outer → n ≤ length a
    → Marked g n p v a b (o * g.inner + from) (o * g.inner + i) → e ≡ cond (p i o) (set b (spot_of g i o) (get_or b (spot_of g i o) 0 + v)) b
    → Marked g n p v a e (o * g.inner + from) (o * g.inner + (i + 1))
run-loop g n p v a b e from i o L h li lo room A z =
    marked-trans g n p v a b e (o * g.inner + from) (o * g.inner + i) (o * g.inner + (i + 1)) (omega arith) (omega arith) A
    (marked-dot g n L p v b e i o li lo (let s = A.size in omega arith) z)

-- one step more along a scanline
pub scanline-loop : (g : Sweep) (m : List ℕ) (run_min thick_max v o x r : ℕ) (a b e : List ℕ)
    → Marked g (length m) (is_ruling g m run_min thick_max) v a b (o * g.inner) (o * g.inner + x) → Walked g m run_min thick_max v o x r b e
    → Marked g (length m) (is_ruling g m run_min thick_max) v a e (o * g.inner) (o * g.inner + r)
scanline-loop g m run_min thick_max v o x r a b e A W =
    marked-trans g (length m) (is_ruling g m run_min thick_max) v a b e (o * g.inner) (o * g.inner + x) (o * g.inner + r) (omega arith) (let f = W.further in omega arith) A W.marked

-- the rest of it
pub scanline-end : (g : Sweep) (m : List ℕ) (run_min thick_max v o x : ℕ) (a b : List ℕ) → Starts (widened_scanline g m o) x → x ≤ g.inner → g.inner < x + run_min
    → Marked g (length m) (is_ruling g m run_min thick_max) v a b (o * g.inner) (o * g.inner + x)
    → Marked g (length m) (is_ruling g m run_min thick_max) v a b (o * g.inner) (o * g.inner + g.inner)
scanline-end g m run_min thick_max v o x a b S h l A =
    marked-trans g (length m) (is_ruling g m run_min thick_max) v a b b (o * g.inner) (o * g.inner + x) (o * g.inner + g.inner) (omega arith) (omega arith) A
    (marked-rest g m run_min thick_max v o x S b h l)

-- one scanline more
pub scanlines-loop : (g : Sweep) (n : ℕ) (p : Plane) (v o : ℕ) (a b e : List ℕ) → Marked g n p v a b 0 (o * g.inner)
    → Marked g n p v b e (o * g.inner) (o * g.inner + g.inner) → Marked g n p v a e 0 ((o + 1) * g.inner)
scanlines-loop g n p v o a b e A B =
    subst (λ k. Marked g n p v a e 0 k) (row_next g.inner o)
    (marked-trans g n p v a b e 0 (o * g.inner) (o * g.inner + g.inner) (omega arith) (omega arith) A B)

-- nothing is kept yet
pub cached-none : (g : Sweep) (m : List ℕ) (thick_max : ℕ) (cache : List ℕ) → g.inner + g.inner ≤ length cache → ((i : ℕ) → i < g.inner → get_or cache i 0 ≡ 0) → Cached g m thick_max 0 cache
cached-none g m thick_max cache h z = record { room = h; told = λ i q l a b. let e = z i l in absurd (omega arith) }

-- Rows and columns

laid-across : (w h : ℕ) → 0 < w → h ≤ max_mask_side → w ≤ max_mask_side → w * h ≤ max_mask_dots → Laid (sweep_across w h) (w * h)
laid-across w h wide a b few =
    record {
      inside = λ i o l k. let d = dot-inside w h i o l k in omega arith;
      apart = λ i o j q li lo lj lq e. count-apart w i o j q li lj (omega arith);
      few = few;
      narrow = omega arith;
      low = omega arith;
    }

laid-down : (w h : ℕ) → 0 < w → h ≤ max_mask_side → w ≤ max_mask_side → w * h ≤ max_mask_dots → Laid (sweep_down w h) (w * h)
laid-down w h wide a b few =
    record {
      inside = λ i o l k. let d = dot-inside w h o i k l in omega arith;
      apart = λ i o j q li lo lj lq e. let r = count-apart w o i q j lo lq (omega arith) in (r.1, r.0);
      few = few;
      narrow = omega arith;
      low = omega arith;
    }

pub fit-across : (w h n k : ℕ) → MaskFits w h n k → Laid (sweep_across w h) n
fit-across w h n k F = subst (Laid (sweep_across w h)) (sym F.dots) (laid-across w h F.wide F.low F.narrow F.few)

pub fit-down : (w h n k : ℕ) → MaskFits w h n k → Laid (sweep_down w h) n
fit-down w h n k F = subst (Laid (sweep_down w h)) (sym F.dots) (laid-down w h F.wide F.low F.narrow F.few)

-- marks of at most 2 everywhere
pub unmarked-all : (g : Sweep) (n : ℕ) (marks : List ℕ) → Laid g n → n ≤ length marks → ((k : ℕ) → k < n → get_or marks k 0 ≤ 2) → Unmarked g n marks 0
unmarked-all g n marks L h z = record { room = h; small = λ i o l k x. z (spot_of g i o) (L.inside i o l k) }

-- a mark that did not grow
unmarked : (t : Bool) (v k : ℕ) → k ≡ k + cond t (suc v) 0 → t ≡ false
unmarked true v k e = absurd (omega arith)
unmarked false v k e = refl

module _ (run_min thick_max w h : ℕ) (m : List ℕ) (wide : 0 < w) (size : length m ≡ w * h) where
  ink-past-rows : (x y : ℕ) → x < w → h ≤ y → is_ink m (y * w + x) ≡ false
  ink-past-rows x y l k = ink-past m (y * w + x) (let a : h * w ≤ y * w = mul-le-mul_right w k in let b = mul_comm h w in omega arith)

  plane-across : (i o : ℕ) → plane_of (sweep_across w h) m i o ≡ ink_at w m i o
  unfolding plane_of ink_at
  plane-across i o = go (dec_lt i w) (dec_lt o h)
    where
      z : o * w + i * 1 ≡ o * w + i
      z = omega arith

      go : Dec (i < w) → Dec (o < h) → (ltb i w && ltb o h && is_ink m (o * w + i * 1)) ≡ (ltb i w && is_ink m (o * w + i))
      go (yes a) (yes b) = rw (lt-ltb i w a, lt-ltb o h b) (ap (is_ink m) z)
      go (yes a) (no b) = rw (lt-ltb i w a, le-ltb o h (omega arith), ink-past-rows i o a (omega arith))
      go (no a) b = rw (le-ltb i w (omega arith))

  plane-down : (i o : ℕ) → plane_of (sweep_down w h) m i o ≡ transposed (ink_at w m) i o
  unfolding plane_of ink_at
  plane-down i o = go (dec_lt o w) (dec_lt i h)
    where
      z : o * 1 + i * w ≡ i * w + o
      z = omega arith

      go : Dec (o < w) → Dec (i < h) → (ltb i h && ltb o w && is_ink m (o * 1 + i * w)) ≡ (ltb o w && is_ink m (i * w + o))
      go (yes a) (yes b) = rw (lt-ltb i h b, lt-ltb o w a) (ap (is_ink m) z)
      go (yes a) (no b) = rw (le-ltb i h (omega arith), lt-ltb o w a, ink-past-rows o i a (omega arith))
      go (no a) (yes b) = rw (lt-ltb i h b, le-ltb o w (omega arith))
      go (no a) (no b) = rw (le-ltb i h (omega arith), le-ltb o w (omega arith))

  ruling-across : (k : ℕ) → k < w * h → is_ruling (sweep_across w h) m run_min thick_max (k % w) (k / w) ≡ is_ink (cut_horizontal run_min thick_max w h m) k
  unfolding cut_horizontal
  ruling-across k l = (λ j. in_thin_ruling (λ x y. plane-across x y j) w h run_min thick_max (k % w) (k / w)) ∙ sym (is_ink-mask_of w h _ k l)

  ruling-down : (k : ℕ) → k < w * h → is_ruling (sweep_down w h) m run_min thick_max (k / w) (k % w) ≡ is_ink (cut_vertical run_min thick_max w h m) k
  unfolding cut_vertical
  ruling-down k l = (λ j. in_thin_ruling (λ x y. plane-down x y j) h w run_min thick_max (k / w) (k % w)) ∙ sym (is_ink-mask_of w h _ k l)

  inside-across : (k : ℕ) → k < w * h → k / w < h
  inside-across k l = (div-lt_iff_lt-mul wide).1 (let z = mul_comm w h in omega arith)

  marked-across : (a b : List ℕ) → Marked (sweep_across w h) (w * h) (is_ruling (sweep_across w h) m run_min thick_max) 1 a b 0 (h * w) → (k : ℕ) → k < w * h
      → get_or b k 0 ≡ get_or a k 0 + cond (is_ink (cut_horizontal run_min thick_max w h m) k) 1 0
  marked-across a b A k l =
      let e : k / w * w + k % w * 1 ≡ k = (let d = div-add-mod' k w in omega arith) in
      let c : k / w * w + k % w < h * w = (let d = div-add-mod' k w in let z = mul_comm w h in omega arith) in
      ap (λ t. get_or b t 0) (sym e)
      ∙ (A.each (k % w) (k / w) (mod-lt k wide) (inside-across k l)
      ∙ rw (e, le-leb 0 (k / w * w + k % w) (omega arith), lt-ltb (k / w * w + k % w) (h * w) c) (ap (λ t. get_or a k 0 + cond t 1 0) (ruling-across k l)))

  marked-down : (a b : List ℕ) → Marked (sweep_down w h) (w * h) (is_ruling (sweep_down w h) m run_min thick_max) 2 a b 0 (w * h) → (k : ℕ) → k < w * h
      → get_or b k 0 ≡ get_or a k 0 + cond (is_ink (cut_vertical run_min thick_max w h m) k) 2 0
  marked-down a b A k l =
      let e : k % w * 1 + k / w * w ≡ k = (let d = div-add-mod' k w in omega arith) in
      let c : k % w * h + k / w < w * h = (let d = dot-inside h w (k / w) (k % w) (inside-across k l) (mod-lt k wide) in let z = mul_comm w h in omega arith) in
      ap (λ t. get_or b t 0) (sym e)
      ∙ (A.each (k / w) (k % w) (inside-across k l) (mod-lt k wide)
      ∙ rw (e, le-leb 0 (k % w * h + k / w) (omega arith), lt-ltb (k % w * h + k / w) (w * h) c) (ap (λ t. get_or a k 0 + cond t 2 0) (ruling-down k l)))

  -- the columns marked, of a plane of zeros
  pub marked-small : (a b : List ℕ) → ((k : ℕ) → k < w * h → get_or a k 0 ≡ 0) → Marked (sweep_down w h) (length m) (is_ruling (sweep_down w h) m run_min thick_max) 2 a b 0 (w * h) → (k : ℕ) → k < length m → get_or b k 0 ≤ 2
  marked-small a b z A k l =
      let A' = subst (λ n. Marked (sweep_down w h) n (is_ruling (sweep_down w h) m run_min thick_max) 2 a b 0 (w * h)) size A in
      let x = marked-down a b A' k (omega arith) in
      let y = z k (omega arith) in
      two (is_ink (cut_vertical run_min thick_max w h m) k) (omega arith)
    where
      two : (t : Bool) → get_or b k 0 ≡ cond t 2 0 → get_or b k 0 ≤ 2
      two true e = omega arith
      two false e = omega arith

  -- the columns marked, then the rows, of a plane of zeros
  pub rulings-marked : (s a b e : List ℕ) → w * h ≤ length s → length a ≡ length s → ((k : ℕ) → k < w * h → get_or a k 0 ≡ 0) → ((k : ℕ) → w * h ≤ k → get_or a k 0 ≡ get_or s k 0)
      → Marked (sweep_down w h) (length m) (is_ruling (sweep_down w h) m run_min thick_max) 2 a b 0 (w * h)
      → Marked (sweep_across w h) (length m) (is_ruling (sweep_across w h) m run_min thick_max) 1 b e 0 (h * w)
      → e ≡ over (table (cut_mark run_min thick_max w h m) (w * h)) s
  unfolding cut_mark
  rulings-marked s a b e room q zeros past A B =
      let A' = subst (λ n. Marked (sweep_down w h) n (is_ruling (sweep_down w h) m run_min thick_max) 2 a b 0 (w * h)) size A in
      let B' = subst (λ n. Marked (sweep_across w h) n (is_ruling (sweep_across w h) m run_min thick_max) 1 b e 0 (h * w)) size B in
      over-unique (cut_mark run_min thick_max w h m) (w * h) s e room (B.size ∙ (A.size ∙ q))
      (λ k l. let x = marked-across b e B' k l in let y = marked-down a b A' k l in let z = zeros k l in omega arith)
      (λ k l. B'.past k l ∙ (A'.past k l ∙ past k l))

  -- no ruling where the walk marked nothing
  pub blank-down : (a b : List ℕ) → Marked (sweep_down w h) (length m) (is_ruling (sweep_down w h) m run_min thick_max) 2 a b 0 (w * h) → b ≡ a → Blank (cut_vertical run_min thick_max w h m) (w * h)
  blank-down a b A e k l =
      let A' = subst (λ n. Marked (sweep_down w h) n (is_ruling (sweep_down w h) m run_min thick_max) 2 a b 0 (w * h)) size A in
      unmarked (is_ink (cut_vertical run_min thick_max w h m) k) 1 (get_or a k 0) (ap (λ (s : List ℕ). get_or s k 0) (sym e) ∙ marked-down a b A' k l)

  pub blank-across : (a b : List ℕ) → Marked (sweep_across w h) (length m) (is_ruling (sweep_across w h) m run_min thick_max) 1 a b 0 (h * w) → b ≡ a → Blank (cut_horizontal run_min thick_max w h m) (w * h)
  blank-across a b A e k l =
      let A' = subst (λ n. Marked (sweep_across w h) n (is_ruling (sweep_across w h) m run_min thick_max) 1 a b 0 (h * w)) size A in
      unmarked (is_ink (cut_horizontal run_min thick_max w h m) k) 0 (get_or a k 0) (ap (λ (s : List ℕ). get_or s k 0) (sym e) ∙ marked-across a b A' k l)

-- the marks are zeros, and what lies past them is as it was
pub record Cleared (marks n : ℕ) (s t : List ℕ) : Type 0 where
  pub size : length t ≡ length s
  pub room : n ≤ length (drop marks t)
  pub behind : length (drop marks t) ≡ length (drop marks s)
  pub zeros : (k : ℕ) → k < n → get_or (drop marks t) k 0 ≡ 0
  pub past : (k : ℕ) → n ≤ k → get_or (drop marks t) k 0 ≡ get_or (drop marks s) k 0

pub marks-cleared : (marks area n : ℕ) (s t : List ℕ) → area ≡ n → n ≤ length s - marks → marks ≤ length s
    → t ≡ table (λ _. 0) (length (take (marks + area - marks) (drop marks s))) → Cleared marks n s (put_mid marks (marks + area - marks) s t)
marks-cleared marks area n s t q l b h =
    let f = stored-filled 0 marks (marks + area) s t (omega arith) (omega arith) h in
    let z = f.within.len in
    let x = length-drop marks s in
    let y = length-drop marks (put_mid marks (marks + area - marks) s t) in
    record {
      size = z;
      room = omega arith;
      behind = omega arith;
      zeros = λ k c. get_or-drop marks (put_mid marks (marks + area - marks) s t) k 0 ∙ stored_at f (marks + k) (omega arith) (omega arith);
      past = λ k c. get_or-drop marks (put_mid marks (marks + area - marks) s t) k 0 ∙ (f.within.past (marks + k) (omega arith) ∙ sym (get_or-drop marks s k 0));
    }

-- Columns walked row by row: counters of the runs that end in a row, and the marks that one row more brings.
use mathlib.Core.Path.{◌≡◌, refl, sym, ap, ◌∙◌}
use mathlib.Core.Bool.{Bool, true, false, cond, ◌&&◌, ◌||◌}
use mathlib.Core.List.{List}
use Prim.Native.Nat.{ℕ, suc, ◌+◌, ◌-◌, ◌*◌, ◌≤◌, ◌<◌, min}
use native.Mathlib.Nat.{le_refl, mul_comm}
use native.Mathlib.Decide.{ℕ_discrete, dec_lt, dec_le}
use native.Mathlib.Omega.{arith}
use borrow.Author.Tests.{lt-ltb, le-ltb, le-leb, lt-leb}
use lib.ListN.{length, get_or, take, drop, set}
use lib.Seq.{get_or-set_same, get_or-set_other, get_or-take, get_or-drop, drop-set-add}
use lib.Dec.{ltb, leb}
use Rattle.memory.specs.rules.Limits.{max_extent}
use Rattle.extents.specs.rules.Extents.{behind, ahead, run_through, extent}
use Rattle.rulings.specs.rules.Rulings.{widened, in_thin_ruling}
use Rattle.extents.specs.stages.Scans.{Starts}
use Rattle.rulings.specs.stages.Sweeps.{spot_of, plane_of, widened_scanline, is_thin, is_ruling, Laid, ScannedBack, Marked, UpTo, Counted, ink_beside, CountedOn, Recounted, ruling_by, Risen}
use Rattle.rulings.specs.declared.plane.Sweep.{Sweep}
use Rattle.memory.proofs.PlaneLaws.{dot-inside}
use Rattle.memory.specs.rules.Masks.{is_ink}
use Rattle.extents.proofs.RunLaws.{behind-on, behind-off, behind-le, ahead-on, ahead-off, ahead-le, count_next, run_through-last, run-reached, run-reached-before, run-apart, run-last}
use Rattle.rulings.proofs.SweepLaws.{run-around, count-scanline, range_split, plane-inside, widened-past, back-short}

-- Rulings by the first places

module _ (g : Sweep) (m : List ℕ) (run_min thick_max : ℕ) where
  by-past : (y i o : ℕ) → y ≤ i → ruling_by g m run_min thick_max y i o ≡ false
  unfolding ruling_by
  by-past y i o l = rw (le-ltb i y l)

  by-short : (y i o : ℕ) → run_through (widened_scanline g m o) y i < run_min → ruling_by g m run_min thick_max y i o ≡ false
  unfolding ruling_by in_thin_ruling
  by-short y i o h = rw (lt-leb run_min (run_through (widened_scanline g m o) y i) h) (off (ltb i y) (plane_of g m i o))
    where
      off : (a b : Bool) → (a && (b && false && leb (extent (plane_of g m i) g.outer o) thick_max)) ≡ false
      off true true = refl
      off true false = refl
      off false b = refl

  by-long : (y i o : ℕ) → i < y → run_min ≤ run_through (widened_scanline g m o) y i → ruling_by g m run_min thick_max y i o ≡ is_thin g m thick_max i o
  unfolding ruling_by in_thin_ruling is_thin
  by-long y i o l h = rw (lt-ltb i y l, le-leb run_min (run_through (widened_scanline g m o) y i) h) (on (plane_of g m i o))
    where
      on : (b : Bool) → (b && true && leb (extent (plane_of g m i) g.outer o) thick_max) ≡ (b && leb (extent (plane_of g m i) g.outer o) thick_max)
      on true = refl
      on false = refl

  by-same : (y z i o : ℕ) → i < y → i < z → run_through (widened_scanline g m o) y i ≡ run_through (widened_scanline g m o) z i → ruling_by g m run_min thick_max y i o ≡ ruling_by g m run_min thick_max z i o
  unfolding ruling_by in_thin_ruling
  by-same y z i o a b e = rw (lt-ltb i y a, lt-ltb i z b, e)

  by_all : (i o : ℕ) → i < g.inner → ruling_by g m run_min thick_max g.inner i o ≡ is_ruling g m run_min thick_max i o
  unfolding ruling_by
  by_all i o l = rw (lt-ltb i g.inner l)

  -- Place y more, of scanline o

  module _ (y o : ℕ) where
    abbrev since : ℕ
    since = behind (widened_scanline g m o) (y + 1)

    -- no run that ends with it is long: all is as it was
    by-still : since < run_min → (i : ℕ) → ruling_by g m run_min thick_max y i o ≡ ruling_by g m run_min thick_max (y + 1) i o
    by-still h i = go (dec_lt i y) (dec_le (y + 1) (i + since)) (ℕ_discrete i y)
      where
        go : Dec (i < y) → Dec (y + 1 ≤ i + since) → Dec (i ≡ y) → ruling_by g m run_min thick_max y i o ≡ ruling_by g m run_min thick_max (y + 1) i o
        go (yes l) (yes k) d =
            by-short y i o (let e = run-reached-before (widened_scanline g m o) y i l k in omega arith)
            ∙ sym (by-short (y + 1) i o (let e = run-reached (widened_scanline g m o) y i (omega arith) k in omega arith))
        go (yes l) (no k) d = by-same y (y + 1) i o l (omega arith) (sym (run-apart (widened_scanline g m o) y i l (omega arith)))
        go (no l) k (yes d) =
            by-past y i o (omega arith)
            ∙ sym (by-short (y + 1) i o (let e = ap (run_through (widened_scanline g m o) (y + 1)) d in let f = run-last (widened_scanline g m o) y in omega arith))
        go (no l) k (no d) = by-past y i o (omega arith) ∙ sym (by-past (y + 1) i o (omega arith))

    -- a long run ends with it: all of it is new where it has just got long, else the last place
    module _ (from : ℕ) (some : 0 < run_min) (long : run_min ≤ since) (low : from ≤ y) (first : since ≡ run_min → from + run_min ≡ y + 1) (later : run_min < since → from ≡ y) where
      by-new : (i : ℕ) → from ≤ i → i < y + 1 → (ruling_by g m run_min thick_max y i o ≡ false) × (ruling_by g m run_min thick_max (y + 1) i o ≡ is_thin g m thick_max i o)
      by-new i a b = (go (dec_lt i y) (ℕ_discrete since run_min), by-long (y + 1) i o b (let e = run-reached (widened_scanline g m o) y i b (reach (ℕ_discrete since run_min)) in omega arith))
        where
          reach : Dec (since ≡ run_min) → y + 1 ≤ i + since
          reach (yes e) = let f = first e in omega arith
          reach (no e) = let f = later (omega arith) in omega arith

          go : Dec (i < y) → Dec (since ≡ run_min) → ruling_by g m run_min thick_max y i o ≡ false
          go (yes l) (yes e) = by-short y i o (let f = run-reached-before (widened_scanline g m o) y i l (reach (yes e)) in omega arith)
          go (yes l) (no e) = let f = later (omega arith) in absurd (omega arith)
          go (no l) d = by-past y i o (omega arith)

      by-kept : (i : ℕ) → i < from → ruling_by g m run_min thick_max y i o ≡ ruling_by g m run_min thick_max (y + 1) i o
      by-kept i a = go (dec_le (y + 1) (i + since)) (ℕ_discrete since run_min)
        where
          go : Dec (y + 1 ≤ i + since) → Dec (since ≡ run_min) → ruling_by g m run_min thick_max y i o ≡ ruling_by g m run_min thick_max (y + 1) i o
          go (yes k) (yes d) = let f = first d in absurd (omega arith)
          go (yes k) (no d) =
              by-long y i o (omega arith) (let e = run-reached-before (widened_scanline g m o) y i (omega arith) k in omega arith)
              ∙ sym (by-long (y + 1) i o (omega arith) (let e = run-reached (widened_scanline g m o) y i (omega arith) k in omega arith))
          go (no k) d = by-same y (y + 1) i o (omega arith) (omega arith) (sym (run-apart (widened_scanline g m o) y i (omega arith) (omega arith)))

-- Marks that rise

in-range : (a b o : ℕ) (x y : Bool) → (a ≤ o → o < b → x ≡ y) → (leb a o && ltb o b && x) ≡ (leb a o && ltb o b && y)
in-range a b o x y h = go (dec_le a o) (dec_lt o b)
  where
    go : Dec (a ≤ o) → Dec (o < b) → (leb a o && ltb o b && x) ≡ (leb a o && ltb o b && y)
    go (yes k) (yes l) = ap (λ t. leb a o && ltb o b && t) (h k l)
    go (yes k) (no l) = rw (le-leb a o k, le-ltb o b (omega arith)) refl
    go (no k) l = rw (lt-leb a o (omega arith)) refl

off-range : (a b o : ℕ) (x : Bool) → (a ≤ o → o < b → ⊥) → (leb a o && ltb o b && x) ≡ false
off-range a b o x h = go (dec_le a o) (dec_lt o b)
  where
    go : Dec (a ≤ o) → Dec (o < b) → (leb a o && ltb o b && x) ≡ false
    go (yes k) (yes l) = absurd (h k l)
    go (yes k) (no l) = rw (le-leb a o k, le-ltb o b (omega arith)) refl
    go (no k) l = rw (lt-leb a o (omega arith)) refl

at_most_two : (t : Bool) → cond t 2 0 ≤ 2
at_most_two true = omega arith
at_most_two false = omega arith

module _ (g : Sweep) (m : List ℕ) (run_min thick_max : ℕ) where
  -- no place more
  pub risen-none : (a b y : ℕ) (s : List ℕ) → Risen g m run_min thick_max a b y y s s
  risen-none a b y s = record { size = refl; each = λ i o li lo. refl; past = λ k l. refl }

  -- a place more, with no long run that ends with it
  pub risen-still : (a b y : ℕ) (s : List ℕ) → ((o : ℕ) → a ≤ o → o < b → behind (widened_scanline g m o) (y + 1) < run_min) → Risen g m run_min thick_max a b y (y + 1) s s
  risen-still a b y s h =
      record {
        size = refl;
        each = λ i o li lo. ap (λ (t : Bool). get_or s (spot_of g i o) 0 + cond t 2 0)
            (in-range a b o (ruling_by g m run_min thick_max y i o) (ruling_by g m run_min thick_max (y + 1) i o) (λ k l. by-still g m run_min thick_max y o (h o k l) i));
        past = λ k l. refl;
      }

  -- all places, with no long run
  pub risen-short : (a b : ℕ) (s : List ℕ) → ((o i : ℕ) → a ≤ o → o < b → i < g.inner → run_through (widened_scanline g m o) g.inner i < run_min) → Risen g m run_min thick_max a b 0 g.inner s s
  risen-short a b s h =
      record {
        size = refl;
        each = λ i o li lo. ap (λ (t : Bool). get_or s (spot_of g i o) 0 + cond t 2 0)
            (in-range a b o (ruling_by g m run_min thick_max 0 i o) (ruling_by g m run_min thick_max g.inner i o)
            (λ k l. by-past g m run_min thick_max 0 i o (omega arith) ∙ sym (by-short g m run_min thick_max g.inner i o (h o i k l li))));
        past = λ k l. refl;
      }

  -- a place more of scanline o, with a long run that ends with it
  pub risen-long : (y o from : ℕ) (s t : List ℕ) → o < g.outer → y < g.inner → 0 < run_min → run_min ≤ behind (widened_scanline g m o) (y + 1) → from ≤ y
      → (behind (widened_scanline g m o) (y + 1) ≡ run_min → from + run_min ≡ y + 1) → (run_min < behind (widened_scanline g m o) (y + 1) → from ≡ y)
      → Marked g (length m) (is_thin g m thick_max) 2 s t (o * g.inner + from) (o * g.inner + (y + 1)) → Risen g m run_min thick_max o (o + 1) y (y + 1) s t
  risen-long y o from s t lo ly some long low first later A = record { size = A.size; each = λ i q li lq. each i q li lq (ℕ_discrete q o); past = A.past }
    where
      own : (i : ℕ) → i < g.inner → Dec (from ≤ i) → Dec (i < y + 1)
          → get_or t (spot_of g i o) 0 + cond (leb o o && ltb o (o + 1) && ruling_by g m run_min thick_max y i o) 2 0 ≡ get_or s (spot_of g i o) 0 + cond (leb o o && ltb o (o + 1) && ruling_by g m run_min thick_max (y + 1) i o) 2 0
      own i li (yes a) (yes b) =
          let f = by-new g m run_min thick_max y o from some long low first later i a b in
          let e = rw (le-leb (o * g.inner + from) (o * g.inner + i) (omega arith), lt-ltb (o * g.inner + i) (o * g.inner + (y + 1)) (omega arith)) at (A.each i o li lo) in
          rw (le-leb o o (le_refl o), lt-ltb o (o + 1) (omega arith), f.0, f.1) (omega arith)
      own i li (yes a) (no b) =
          let e = rw (le-leb (o * g.inner + from) (o * g.inner + i) (omega arith), le-ltb (o * g.inner + i) (o * g.inner + (y + 1)) (omega arith)) at (A.each i o li lo) in
          rw (le-leb o o (le_refl o), lt-ltb o (o + 1) (omega arith), by-past g m run_min thick_max y i o (omega arith), by-past g m run_min thick_max (y + 1) i o (omega arith)) (omega arith)
      own i li (no a) b =
          let e = rw (lt-leb (o * g.inner + from) (o * g.inner + i) (omega arith)) at (A.each i o li lo) in
          rw (le-leb o o (le_refl o), lt-ltb o (o + 1) (omega arith), by-kept g m run_min thick_max y o from some long low first later i (omega arith)) (omega arith)

      each : (i q : ℕ) → i < g.inner → q < g.outer → Dec (q ≡ o)
          → get_or t (spot_of g i q) 0 + cond (leb o q && ltb q (o + 1) && ruling_by g m run_min thick_max y i q) 2 0 ≡ get_or s (spot_of g i q) 0 + cond (leb o q && ltb q (o + 1) && ruling_by g m run_min thick_max (y + 1) i q) 2 0
      each i q li lq (yes d) = rw d (own i li (dec_le from i) (dec_lt i (y + 1)))
      each i q li lq (no d) =
          let e = rw (off-range (o * g.inner + from) (o * g.inner + (y + 1)) (q * g.inner + i) (is_thin g m thick_max i q) (λ a b. d (count-scanline g.inner o from (y + 1) i q (omega arith) li a b).0)) at (A.each i q li lq) in
          rw (off-range o (o + 1) q (ruling_by g m run_min thick_max y i q) (λ a b. d (omega arith)), off-range o (o + 1) q (ruling_by g m run_min thick_max (y + 1) i q) (λ a b. d (omega arith))) (omega arith)

  -- more scanlines
  pub risen-scanlines : (a b c y z : ℕ) (s t u : List ℕ) → a ≤ b → b ≤ c → Risen g m run_min thick_max a b y z s t → Risen g m run_min thick_max b c y z t u → Risen g m run_min thick_max a c y z s u
  risen-scanlines a b c y z s t u h k A B =
      record {
        size = B.size ∙ A.size;
        each = λ i o li lo.
            let e = A.each i o li lo in
            let f = B.each i o li lo in
            let v = range_split a b c h k 2 (ruling_by g m run_min thick_max y i o) o in
            let w = range_split a b c h k 2 (ruling_by g m run_min thick_max z i o) o in
            omega arith;
        past = λ j l. B.past j l ∙ A.past j l;
      }

  -- more places
  pub risen-places : (a b x y z : ℕ) (s t u : List ℕ) → Risen g m run_min thick_max a b x y s t → Risen g m run_min thick_max a b y z t u → Risen g m run_min thick_max a b x z s u
  risen-places a b x y z s t u A B =
      record {
        size = B.size ∙ A.size;
        each = λ i o li lo. let e = A.each i o li lo in let f = B.each i o li lo in omega arith;
        past = λ j l. B.past j l ∙ A.past j l;
      }

  -- all scanlines and all places
  pub risen-all : (s t : List ℕ) → Risen g m run_min thick_max 0 g.outer 0 g.inner s t → Marked g (length m) (is_ruling g m run_min thick_max) 2 s t 0 (g.outer * g.inner)
  risen-all s t A = record { size = A.size; each = each; past = A.past }
    where
      each : (i o : ℕ) → i < g.inner → o < g.outer → get_or t (spot_of g i o) 0 ≡ get_or s (spot_of g i o) 0 + cond (leb 0 (o * g.inner + i) && ltb (o * g.inner + i) (g.outer * g.inner) && is_ruling g m run_min thick_max i o) 2 0
      each i o li lo =
          let e = rw (le-leb 0 o (omega arith), lt-ltb o g.outer lo, by-past g m run_min thick_max 0 i o (omega arith), by_all g m run_min thick_max i o li) at (A.each i o li lo) in
          let d = dot-inside g.inner g.outer i o li lo in
          let c = mul_comm g.inner g.outer in
          rw (le-leb 0 (o * g.inner + i) (omega arith), lt-ltb (o * g.inner + i) (g.outer * g.inner) (omega arith)) (omega arith)

  -- how large the marks get
  pub risen-small : (a b y z v : ℕ) (s t : List ℕ) → Risen g m run_min thick_max a b y z s t → UpTo g (length m) s v → UpTo g (length m) t (v + 2)
  risen-small a b y z v s t A U =
      record {
        room = let e = A.size in let r = U.room in omega arith;
        small = λ i o li lo. let e = A.each i o li lo in let f = U.small i o li lo in let h = at_most_two (leb a o && ltb o b && ruling_by g m run_min thick_max z i o) in omega arith;
      }

pub marked_more : (g : Sweep) (n : ℕ) (p : ℕ → ℕ → Bool) (v c d : ℕ) (s t : List ℕ) → Marked g n p 2 s t c d → UpTo g n s v → UpTo g n t (v + 2)
marked_more g n p v c d s t A U =
    record {
      room = let e = A.size in let r = U.room in omega arith;
      small = λ i o li lo. let e = A.each i o li lo in let f = U.small i o li lo in let h = at_most_two (leb c (o * g.inner + i) && ltb (o * g.inner + i) d && p i o) in omega arith;
    }

-- marks of at most v everywhere
pub up-to-all : (g : Sweep) (n v : ℕ) (marks : List ℕ) → Laid g n → n ≤ length marks → ((k : ℕ) → k < n → get_or marks k 0 ≤ v) → UpTo g n marks v
up-to-all g n v marks L h z = record { room = h; small = λ i o l k. z (spot_of g i o) (L.inside i o l k) }

-- Counters

pub counted-zero : (g : Sweep) (m : List ℕ) (a b : ℕ) (s : List ℕ) → ((o : ℕ) → a ≤ o → o < b → get_or s o 0 ≡ 0) → Counted g m a b 0 s
unfolding behind
counted-zero g m a b s h = record { each = h }

pub counted-kept : (g : Sweep) (m : List ℕ) (a b y n : ℕ) (s t : List ℕ) → b ≤ n → take n t ≡ take n s → Counted g m a b y s → Counted g m a b y t
counted-kept g m a b y n s t l e C = record { each = λ o h k. sym (get_or-take n t o 0 (omega arith)) ∙ (ap (λ (r : List ℕ). get_or r o 0) e ∙ (get_or-take n s o 0 (omega arith) ∙ C.each o h k)) }

pub recounted-none : (g : Sweep) (m : List ℕ) (a y : ℕ) (s : List ℕ) → Recounted g m a a y s s
recounted-none g m a y s = record { inside = λ o h k. absurd (omega arith); below = λ o h. refl; above = λ o h. refl }

-- one counter more
pub recounted-next : (g : Sweep) (m : List ℕ) (a x y v : ℕ) (s t : List ℕ) → a ≤ x → x < length t → v ≡ behind (widened_scanline g m x) (y + 1) → Recounted g m a x y s t → Recounted g m a (x + 1) y s (set t x v)
recounted-next g m a x y v s t l k e R = record { inside = λ o h j. go o h j (ℕ_discrete o x); below = λ o h. get_or-set_other t x o v 0 (λ z. omega arith) ∙ R.below o h; above = λ o h. get_or-set_other t x o v 0 (λ z. omega arith) ∙ R.above o (omega arith) }
  where
    go : (o : ℕ) → a ≤ o → o < x + 1 → Dec (o ≡ x) → get_or (set t x v) o 0 ≡ behind (widened_scanline g m o) (y + 1)
    go o h j (yes d) = ap (λ k. get_or (set t x v) k 0) d ∙ (get_or-set_same t x v 0 k ∙ (e ∙ ap (λ k. behind (widened_scanline g m k) (y + 1)) (sym d)))
    go o h j (no d) = get_or-set_other t x o v 0 d ∙ R.inside o h (omega arith)

pub recounted-counted : (g : Sweep) (m : List ℕ) (a b y : ℕ) (s t : List ℕ) → Recounted g m a b y s t → Counted g m a b (y + 1) t
recounted-counted g m a b y s t R = record { each = R.inside }

-- the first counter, the last, then those between
module _ (g : Sweep) (m : List ℕ) (a b y : ℕ) (s t : List ℕ) (C : Counted g m a b y s) (two : a + 1 < b) (A : Recounted g m a (a + 1) y s t) where
  module _ (u : List ℕ) (B : Recounted g m (b - 1) (b - 1 + 1) y t u) where
    pub counted-between : Counted g m (a + 1) (b - 1) y u
    counted-between = record { each = λ o h k. B.below o k ∙ (A.above o h ∙ C.each o (omega arith) (omega arith)) }

    pub recounted-all : (v : List ℕ) → Recounted g m (a + 1) (b - 1) y u v → Recounted g m a b y s v
    recounted-all v D =
        record {
          inside = λ o h k. go o h k (dec_lt o (a + 1)) (dec_lt o (b - 1));
          below = λ o h. D.below o (omega arith) ∙ (B.below o (omega arith) ∙ A.below o h);
          above = λ o h. D.above o (omega arith) ∙ (B.above o (omega arith) ∙ A.above o (omega arith));
        }
      where
        go : (o : ℕ) → a ≤ o → o < b → Dec (o < a + 1) → Dec (o < b - 1) → get_or v o 0 ≡ behind (widened_scanline g m o) (y + 1)
        go o h k (yes c) d = D.below o c ∙ (B.below o (omega arith) ∙ A.inside o h c)
        go o h k (no c) (yes d) = D.inside o (omega arith) d
        go o h k (no c) (no d) = D.above o (omega arith) ∙ B.inside o (omega arith) (omega arith)

-- a dot and those beside it, in a row
widened-row : (g : Sweep) (m : List ℕ) (y o : ℕ) → g.across ≡ 1 → y < g.inner → 0 < o → o + 1 < g.outer → ink_beside m (y * g.along + o) ≡ widened_scanline g m o y
unfolding widened
widened-row g m y o e ly a b =
    sym (λ k. dot o (y * g.along + o) (omega arith) refl k || dot (o - 1) (y * g.along + o - 1) (omega arith) (omega arith) k || dot (o + 1) (y * g.along + o + 1) b (omega arith) k)
  where
    dot : (q at : ℕ) → q < g.outer → y * g.along + q ≡ at → plane_of g m y q ≡ is_ink m at
    dot q at l z = plane-inside g m y q ly l ∙ ap (is_ink m) (ap (λ k. q * k + y * g.along) e ∙ (let x : q * 1 + y * g.along ≡ at = omega arith in x))

-- the counters between the first and the last, by the row's dots
pub recounted-row : (g : Sweep) (m : List ℕ) (a b y : ℕ) (s t : List ℕ) → g.across ≡ 1 → y < g.inner → 0 < a → b < g.outer → Counted g m a b y s → CountedOn m (y * g.along) a b s t → Recounted g m a b y s t
recounted-row g m a b y s t e ly l h C D =
    record {
      inside = λ o j k. D.inside o j k ∙ ((λ x. cond (widened-row g m y o e ly (omega arith) (omega arith) x) (C.each o j k x + 1) 0) ∙ sym (count_next (widened_scanline g m o) y));
      below = D.below;
      above = D.above;
    }

pub counted-on-next : (m : List ℕ) (row a x v : ℕ) (s t : List ℕ) → a ≤ x → x < length t → v ≡ cond (ink_beside m (row + x)) (get_or t x 0 + 1) 0 → CountedOn m row a x s t → CountedOn m row a (x + 1) s (set t x v)
counted-on-next m row a x v s t l k e D = record { inside = λ o h j. go o h j (ℕ_discrete o x); below = λ o h. get_or-set_other t x o v 0 (λ z. omega arith) ∙ D.below o h; above = λ o h. get_or-set_other t x o v 0 (λ z. omega arith) ∙ D.above o (omega arith) }
  where
    go : (o : ℕ) → a ≤ o → o < x + 1 → Dec (o ≡ x) → get_or (set t x v) o 0 ≡ cond (ink_beside m (row + o)) (get_or s o 0 + 1) 0
    go o h j (yes d) =
        ap (λ k. get_or (set t x v) k 0) d
        ∙ (get_or-set_same t x v 0 k ∙ (e ∙ (ap (λ k. cond (ink_beside m (row + x)) (k + 1) 0) (D.above x (le_refl x)) ∙ ap (λ k. cond (ink_beside m (row + k)) (get_or s k 0 + 1) 0) (sym d))))
    go o h j (no d) = get_or-set_other t x o v 0 d ∙ D.inside o h (omega arith)

-- where the dots of a row lie
pub row-spot : (g : Sweep) (y o : ℕ) → g.across ≡ 1 → spot_of g y o ≡ y * g.along + o
row-spot g y o e = ap (λ k. o * k + y * g.along) e ∙ (let x : o * 1 + y * g.along ≡ y * g.along + o = omega arith in x)

-- Extents across, no further than they matter

module _ (p : ℕ → Bool) where
  -- one step back
  pub behind-step : (o n : ℕ) → n < o → p (o - 1 - n) ≡ true → behind p o ≡ n + behind p (o - n) → behind p o ≡ n + 1 + behind p (o - (n + 1))
  behind-step o n l e h =
      let z : o - n ≡ suc (o - 1 - n) = omega arith in
      let y : o - (n + 1) ≡ o - 1 - n = omega arith in
      let a : behind p (o - n) ≡ suc (behind p (o - 1 - n)) = ap (behind p) z ∙ behind-on p (o - 1 - n) e in
      let b : behind p (o - (n + 1)) ≡ behind p (o - 1 - n) = ap (behind p) y in
      omega arith

  pub behind-blank : (o n most : ℕ) → n < most → n < o → p (o - 1 - n) ≡ false → behind p o ≡ n + behind p (o - n) → n ≡ min (behind p o) most
  behind-blank o n most k l e h =
      let z : o - n ≡ suc (o - 1 - n) = omega arith in
      let a : behind p (o - n) ≡ 0 = ap (behind p) z ∙ behind-off p (o - 1 - n) e in
      omega arith

  pub behind-ended : (o n most : ℕ) → n ≤ most → n ≤ o → (n < most → n < o → ⊥) → behind p o ≡ n + behind p (o - n) → n ≡ min (behind p o) most
  behind-ended o n most k l f h = go (dec_lt n most)
    where
      go : Dec (n < most) → n ≡ min (behind p o) most
      go (yes d) = let z : o - n ≡ 0 = none d (dec_lt n o) in let a = ap (behind p) z in let b = behind-le p 0 in omega arith
        where
          none : n < most → Dec (n < o) → o - n ≡ 0
          none d (yes c) = absurd (f d c)
          none d (no c) = omega arith
      go (no d) = omega arith

  -- one step on
  pub ahead_step : (o r n : ℕ) → n < r → p (o + n) ≡ true → ahead p o r ≡ n + ahead p (o + n) (r - n) → ahead p o r ≡ n + 1 + ahead p (o + (n + 1)) (r - (n + 1))
  ahead_step o r n l e h =
      let z : r - n ≡ suc (r - (n + 1)) = omega arith in
      let y : suc (o + n) ≡ o + (n + 1) = omega arith in
      let a : ahead p (o + n) (r - n) ≡ suc (ahead p (o + (n + 1)) (r - (n + 1))) = ap (ahead p (o + n)) z ∙ (ahead-on p (o + n) (r - (n + 1)) e ∙ ap (λ k. suc (ahead p k (r - (n + 1)))) y) in
      omega arith

  pub ahead-blank : (o r n most : ℕ) → n < most → p (o + n) ≡ false → ahead p o r ≡ n + ahead p (o + n) (r - n) → n ≡ min (ahead p o r) most
  ahead-blank o r n most k e h = let a = ahead-off p (o + n) (r - n) e in omega arith

  pub ahead-ended : (o r n most : ℕ) → n ≤ most → n ≤ r → (n < most → n < r → ⊥) → ahead p o r ≡ n + ahead p (o + n) (r - n) → n ≡ min (ahead p o r) most
  ahead-ended o r n most k l f h = go (dec_lt n most) (dec_lt n r)
    where
      go : Dec (n < most) → Dec (n < r) → n ≡ min (ahead p o r) most
      go (yes d) (yes c) = absurd (f d c)
      go (yes d) (no c) = let a = ahead-le p (o + n) (r - n) in omega arith
      go (no d) c = omega arith

  module _ (n o most before : ℕ) (inside : o < n) (on : p o ≡ true) where
    length-through : run_through p n o ≡ behind p o + 1 + ahead p (o + 1) (n - (o + 1))
    length-through = run-around p n o inside on

    pub thick-before : most < max_extent → before ≡ min (behind p o) most → most ≤ before → leb (extent p n o) most ≡ false
    unfolding extent
    thick-before l e h = lt-leb (min (run_through p n o) max_extent) most (let a = length-through in omega arith)

    pub thin-after : (after : ℕ) → most < max_extent → before ≡ min (behind p o) most → before < most → after ≡ min (ahead p (o + 1) (n - (o + 1))) (most - before) → ltb after (most - before) ≡ leb (extent p n o) most
    unfolding extent
    thin-after after l e h f = go (dec_lt after (most - before))
      where
        go : Dec (after < most - before) → ltb after (most - before) ≡ leb (min (run_through p n o) max_extent) most
        go (yes d) = lt-ltb after (most - before) d ∙ sym (le-leb (min (run_through p n o) max_extent) most (let a = length-through in omega arith))
        go (no d) = le-ltb after (most - before) (omega arith) ∙ sym (lt-leb (min (run_through p n o) max_extent) most (let a = length-through in omega arith))

module _ (g : Sweep) (m : List ℕ) (thick_max i o : ℕ) where
  pub thin-blank : plane_of g m i o ≡ false → false ≡ is_thin g m thick_max i o
  unfolding is_thin
  thin-blank e = rw e

  pub thin-ink : (t : Bool) → plane_of g m i o ≡ true → t ≡ leb (extent (plane_of g m i) g.outer o) thick_max → t ≡ is_thin g m thick_max i o
  unfolding is_thin
  thin-ink t e f = f ∙ sym (ap (λ (b : Bool). b && leb (extent (plane_of g m i) g.outer o) thick_max) e)

  pub thin-always : max_extent ≤ thick_max → true ≡ leb (extent (plane_of g m i) g.outer o) thick_max
  unfolding extent
  thin-always l = sym (le-leb (min (run_through (plane_of g m i) g.outer o) max_extent) thick_max (omega arith))

-- Probes

-- no long run before s
pub short-to : (q : ℕ → Bool) (n x r s : ℕ) → Starts q x → ScannedBack q x (x + r) s → x < s → ((i : ℕ) → i < x → run_through q n i < r) → (i : ℕ) → i < s → run_through q n i < r
short-to q n x r s S B l h i k = go (dec_lt i x)
  where
    go : Dec (i < x) → run_through q n i < r
    go (yes d) = h i d
    go (no d) = back-short q n x r s S B l i (omega arith) k

-- nor where less than that is left of the scanline
pub short-all : (g : Sweep) (m : List ℕ) (o x r : ℕ) → Starts (widened_scanline g m o) x → g.inner < x + r → ((i : ℕ) → i < x → run_through (widened_scanline g m o) g.inner i < r)
    → (i : ℕ) → i < g.inner → run_through (widened_scanline g m o) g.inner i < r
short-all g m o x r S l h i k = go (dec_lt i x)
  where
    go : Dec (i < x) → run_through (widened_scanline g m o) g.inner i < r
    go (yes d) = h i d
    go (no d) = let b = run_through-last (widened_scanline g m o) g.inner x i S (widened-past g m o g.inner (le_refl g.inner)) (omega arith) k in omega arith

-- the columns before o have none, nor o itself
pub short-more : (g : Sweep) (m : List ℕ) (a x r : ℕ) → ((o i : ℕ) → a ≤ o → o < x → i < g.inner → run_through (widened_scanline g m o) g.inner i < r)
    → ((i : ℕ) → i < g.inner → run_through (widened_scanline g m x) g.inner i < r) → (o i : ℕ) → a ≤ o → o < x + 1 → i < g.inner → run_through (widened_scanline g m o) g.inner i < r
short-more g m a x r h e o i l k j = go (dec_lt o x)
  where
    go : Dec (o < x) → run_through (widened_scanline g m o) g.inner i < r
    go (yes d) = h o i l d j
    go (no d) = let z : o ≡ x = omega arith in rw z (e i j)

-- One dot

module _ (g : Sweep) (m : List ℕ) (thick_max i o marks : ℕ) (s : List ℕ) where
  pub place-cut : (at : ℕ) (r : Bool) → r ≡ is_thin g m thick_max i o → r ≡ true → at ≡ spot_of g i o
      → drop marks (set s (marks + at) (get_or s (marks + at) 0 + 2)) ≡ cond (is_thin g m thick_max i o) (set (drop marks s) (spot_of g i o) (get_or (drop marks s) (spot_of g i o) 0 + 2)) (drop marks s)
  place-cut at r h t e =
      let x : get_or s (marks + at) 0 ≡ get_or (drop marks s) (spot_of g i o) 0 = sym (get_or-drop marks s at 0) ∙ ap (λ k. get_or (drop marks s) k 0) e in
      drop-set-add marks s at (get_or s (marks + at) 0 + 2)
      ∙ ((λ j. set (drop marks s) (e j) (x j + 2))
      ∙ ap (λ (b : Bool). cond b (set (drop marks s) (spot_of g i o) (get_or (drop marks s) (spot_of g i o) 0 + 2)) (drop marks s)) (sym t ∙ h))

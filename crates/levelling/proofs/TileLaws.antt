-- A page plane moved dot by dot: the frame holds at each moment the levelled page of those dots that are done.
use mathlib.Core.Path.{◌≡◌, refl, sym, ap, ◌∙◌, subst}
use mathlib.Core.Logic.{◌⊎◌, inl, inr}
use mathlib.Core.List.{List, ◌++◌}
use mathlib.Core.Bool.{Bool, true, false, cond, ◌&&◌, ◌||◌}
use Prim.Native.Nat.{ℕ, zero, suc, ◌+◌, ◌-◌, ◌*◌, ◌/◌, ◌%◌, ◌≤◌, ◌<◌}
use native.Mathlib.Nat.{add_assoc, mod-lt, div-add-mod', div-lt_iff_lt-mul, mul_comm, zero-mul, not-suc-le-zero}
use native.Mathlib.Numerals.{add-one}
use native.Mathlib.Decide.{ℕ_discrete, dec_lt, dec_le}
use native.Mathlib.Omega.{arith}
use borrow.Author.Tests.{eq-eqb, ne_eqb, lt-ltb, le-ltb, lt-leb, le-leb}
use borrow.Rule.Slice.PartMut.{put_mid}
use lib.ListN.{get_or, length, take, drop, set, length-set, length-take, length-drop}
use lib.Seq.{ext_get_or, get_or-set_same, get_or-set_other, get_or-take, get_or-drop, set-append_left}
use lib.Dec.{ltb, leb, eqb}
use Rattle.memory.specs.rules.Lists.{table}
use Rattle.memory.specs.rules.Words.{over}
use Rattle.memory.proofs.TableLaws.{length-table, get_or-table, get_or-default, table-ext}
use Rattle.memory.proofs.PlaneLaws.{dot-column, dot-row, dot-inside}
use Rattle.levelling.specs.rules.Frames.{Frame, frame_of, row_of, column_of}
use Rattle.levelling.specs.rules.Planes.{level_at, levelled}
use Rattle.levelling.specs.stages.Rooms.{PlaneFits}
use Rattle.levelling.specs.stages.Moves.{place_of, shown, partly, or_range, or_rows}
use Rattle.levelling.proofs.InverseTheorems.{Source, added-or-source, mapped-point-is-place, level_at-place, length-levelled}

-- ---- the page with some dots done
length-shown : (done : ℕ → Bool) (fill : ℕ) (page : List ℕ) → length (shown done fill page) ≡ length page
unfolding shown
length-shown done fill page = length-table _ (length page)

shown-ext : (done done' : ℕ → Bool) (fill : ℕ) (page : List ℕ) → ((j : ℕ) → j < length page → done j ≡ done' j) → shown done fill page ≡ shown done' fill page
unfolding shown
shown-ext done done' fill page h = table-ext _ _ (length page) (λ j l. ap (λ b. cond b (get_or page j fill) fill) (h j l))

-- one more is done
shown-set : (done : ℕ → Bool) (fill : ℕ) (page : List ℕ) (j : ℕ) → j < length page → set (shown done fill page) j (get_or page j fill) ≡ shown (λ i. done i || eqb i j) fill page
unfolding shown
shown-set done fill page j l =
    ext_get_or fill _ _ (length-set (shown done fill page) j (get_or page j fill) ∙ (length-shown done fill page ∙ sym (length-shown (λ i. done i || eqb i j) fill page)))
    (λ i k. (let q : i < length page = omega (arith, length-set (shown done fill page) j (get_or page j fill), length-shown done fill page) in at i q (ℕ_discrete i j)))
  where
    or-true : (b : Bool) → (b || true) ≡ true
    or-true true = refl
    or-true false = refl

    or-false : (b : Bool) → (b || false) ≡ b
    or-false true = refl
    or-false false = refl

    at : (i : ℕ) → i < length page → Dec (i ≡ j) → get_or (set (shown done fill page) j (get_or page j fill)) i fill ≡ get_or (shown (λ i. done i || eqb i j) fill page) i fill
    at i q (yes e) =
        ap (λ n. get_or (set (shown done fill page) j (get_or page j fill)) n fill) e
        ∙ (get_or-set_same (shown done fill page) j (get_or page j fill) fill (omega (arith, length-shown done fill page))
        ∙ (ap (λ n. get_or page n fill) (sym e)
        ∙ (sym (ap (λ b. cond b (get_or page i fill) fill) (ap (λ b. done i || b) (eq-eqb i j e) ∙ or-true (done i))) ∙ sym (get_or-table _ (length page) i fill q))))
    at i q (no e) =
        get_or-set_other (shown done fill page) j i (get_or page j fill) fill e
        ∙ (get_or-table _ (length page) i fill q
        ∙ (sym (ap (λ b. cond b (get_or page i fill) fill) (ap (λ b. done i || b) (ne_eqb i j e) ∙ or-false (done i))) ∙ sym (get_or-table _ (length page) i fill q)))

-- dots that are as added dots are may count as done
shown-blank : (done done' : ℕ → Bool) (fill : ℕ) (page : List ℕ) → ((j : ℕ) → j < length page → (done j ≡ done' j) ⊎ (get_or page j fill ≡ fill)) → shown done fill page ≡ shown done' fill page
unfolding shown
shown-blank done done' fill page h = table-ext _ _ (length page) (λ j l. at j (h j l))
  where
    same : (b : Bool) (v : ℕ) → v ≡ fill → cond b v fill ≡ fill
    same true v e = e
    same false v e = refl

    at : (j : ℕ) → (done j ≡ done' j) ⊎ (get_or page j fill ≡ fill) → cond (done j) (get_or page j fill) fill ≡ cond (done' j) (get_or page j fill) fill
    at j (inl e) = ap (λ b. cond b (get_or page j fill) fill) e
    at j (inr e) = same (done j) (get_or page j fill) e ∙ sym (same (done' j) (get_or page j fill) e)

shown-all : (done : ℕ → Bool) (fill : ℕ) (page : List ℕ) → ((j : ℕ) → j < length page → done j ≡ true) → shown done fill page ≡ page
unfolding shown
shown-all done fill page h =
    sym (ext_get_or fill page (shown done fill page) (sym (length-shown done fill page))
    (λ j l. sym (get_or-table _ (length page) j fill l ∙ ap (λ b. cond b (get_or page j fill) fill) (h j l))))

-- ---- a dot stored in the page is a dot stored at its place
module _ (f : Frame) (fill : ℕ) (p : List ℕ) (c y v : ℕ) (lc : c < f.page_w) (ly : y < f.page_h) (size : length p ≡ f.page_w * f.page_h) (lx : column_of f c y < f.w) (lr : row_of f c y < f.h) where
  abbrev place : ℕ
  place = row_of f c y * f.w + column_of f c y

  abbrev j : ℕ
  j = y * f.page_w + c

  elsewhere : (x r : ℕ) → ((column_of f c y ≡ x) × (row_of f c y ≡ r) → ⊥) → level_at f fill p x r ≡ level_at f fill (set p j v) x r
  elsewhere x r ne = go (added-or-source f x r)
    where
      go : ((fill : ℕ) (page : List ℕ) → level_at f fill page x r ≡ fill) ⊎ Source f x r → level_at f fill p x r ≡ level_at f fill (set p j v) x r
      go (inl h) = h fill p ∙ sym (h fill (set p j v))
      go (inr S) = S.value fill p ∙ (sym (get_or-set_other p j (S.r * f.page_w + S.c) v fill other) ∙ sym (S.value fill (set p j v)))
        where
          other : S.r * f.page_w + S.c ≡ j → ⊥
          other e =
              let ec : S.c ≡ c = sym (dot-column f.page_w S.c S.r S.c_in) ∙ (ap (λ n. n % f.page_w) e ∙ dot-column f.page_w c y lc) in
              let er : S.r ≡ y = sym (dot-row f.page_w S.c S.r S.c_in) ∙ (ap (λ n. n / f.page_w) e ∙ dot-row f.page_w c y lc) in
              let q = mapped-point-is-place f x r S.c S.r S.c_in S.point in
              ne ((λ i. column_of f (sym ec i) (sym er i)) ∙ q.0, (λ i. row_of f (sym ec i) (sym er i)) ∙ q.1)

  levelled-set : set (levelled f fill p) place v ≡ levelled f fill (set p j v)
  unfolding levelled
  levelled-set =
      ext_get_or fill _ _ (length-set (levelled f fill p) place v ∙ (length-levelled f fill p ∙ sym (length-levelled f fill (set p j v))))
      (λ i k. (let q : i < f.w * f.h = omega (arith, length-set (levelled f fill p) place v, length-levelled f fill p) in at i q (ℕ_discrete i place)))
    where
      at : (i : ℕ) → i < f.w * f.h → Dec (i ≡ place) → get_or (set (levelled f fill p) place v) i fill ≡ get_or (levelled f fill (set p j v)) i fill
      at i q (yes e) =
          ap (λ n. get_or (set (levelled f fill p) place v) n fill) e
          ∙ (get_or-set_same (levelled f fill p) place v fill (omega (arith, length-levelled f fill p))
          ∙ (sym (get_or-set_same p j v fill (omega (arith, size, dot-inside f.page_w f.page_h c y lc ly)))
          ∙ (sym (level_at-place f fill (set p j v) c y lc ly)
          ∙ ((λ t. level_at f fill (set p j v) (sym (ap (λ n. n % f.w) e ∙ dot-column f.w (column_of f c y) (row_of f c y) lx) t) (sym (ap (λ n. n / f.w) e ∙ dot-row f.w (column_of f c y) (row_of f c y) lx) t))
          ∙ sym (get_or-table _ (f.w * f.h) i fill q)))))
      at i q (no ne) =
          get_or-set_other (levelled f fill p) place i v fill ne
          ∙ (get_or-table _ (f.w * f.h) i fill q
          ∙ (elsewhere (i % f.w) (i / f.w) (λ e. ne (sym (div-add-mod' i f.w) ∙ (λ t. sym e.1 t * f.w + sym e.0 t)))
          ∙ sym (get_or-table _ (f.w * f.h) i fill q)))

-- ---- ranges
range-more : (b : Bool) (a n i : ℕ) → ((b || (leb a i && ltb i (a + n))) || eqb i (a + n)) ≡ (b || (leb a i && ltb i (a + suc n)))
range-more true a n i = refl
range-more false a n i = go (dec_le a i) (dec_lt i (a + n)) (ℕ_discrete i (a + n))
  where
    go : Dec (a ≤ i) → Dec (i < a + n) → Dec (i ≡ a + n) → ((leb a i && ltb i (a + n)) || eqb i (a + n)) ≡ (leb a i && ltb i (a + suc n))
    go (no l) k e = rw (lt-leb a i (omega arith), ne_eqb i (a + n) (λ q. omega arith))
    go (yes l) (yes k) e = rw (le-leb a i l, lt-ltb i (a + n) k, lt-ltb i (a + suc n) (omega arith))
    go (yes l) (no k) (yes e) = rw (le-leb a i l, le-ltb i (a + n) (omega arith), eq-eqb i (a + n) e, lt-ltb i (a + suc n) (omega arith))
    go (yes l) (no k) (no e) = rw (le-leb a i l, le-ltb i (a + n) (omega arith), ne_eqb i (a + n) e, le-ltb i (a + suc n) (omega arith))

range-joined : (b : Bool) (a n m i : ℕ) → ((b || (leb a i && ltb i (a + n))) || (leb (a + n) i && ltb i (a + n + m))) ≡ (b || (leb a i && ltb i (a + (n + m))))
range-joined true a n m i = refl
range-joined false a n m i = go (dec_le a i) (dec_lt i (a + n)) (dec_lt i (a + n + m))
  where
    go : Dec (a ≤ i) → Dec (i < a + n) → Dec (i < a + n + m) → ((leb a i && ltb i (a + n)) || (leb (a + n) i && ltb i (a + n + m))) ≡ (leb a i && ltb i (a + (n + m)))
    go (no l) k e = rw (lt-leb a i (omega arith), lt-leb (a + n) i (omega arith))
    go (yes l) (yes k) e = rw (le-leb a i l, lt-ltb i (a + n) k, lt-ltb i (a + (n + m)) (omega arith))
    go (yes l) (no k) (yes e) = rw (le-leb a i l, le-ltb i (a + n) (omega arith), le-leb (a + n) i (omega arith), lt-ltb i (a + n + m) e, lt-ltb i (a + (n + m)) (omega arith))
    go (yes l) (no k) (no e) = rw (le-leb a i l, le-ltb i (a + n) (omega arith), le-leb (a + n) i (omega arith), le-ltb i (a + n + m) (omega arith), le-ltb i (a + (n + m)) (omega arith))

in-range : (b : Bool) (a n i : ℕ) → a ≤ i → i < n → (b || (leb a i && ltb i n)) ≡ true
in-range true a n i l k = refl
in-range false a n i l k = rw (le-leb a i l, lt-ltb i n k)

kept : (b c : Bool) → b ≡ true → (b || c) ≡ true
kept b c e = ap (λ t. t || c) e

-- ---- the dots of a part of a page row moved to their places
over-set : (l s : List ℕ) (k v : ℕ) → k < length l → set (over l s) k v ≡ over (set l k v) s
over-set l s k v h = set-append_left l (drop (length l) s) k v h ∙ ap (λ n. set l k v ++ drop n s) (sym (length-set l k v))

module _ (page_w page_h : ℕ) (shear shear_x : List ℕ) (w h fill : ℕ) (page : List ℕ) (out : List ℕ) (fits : PlaneFits (frame_of page_w page_h shear shear_x w h) page out) where
  abbrev F : Frame
  F = frame_of page_w page_h shear shear_x w h

  dot-moved : (done : ℕ → Bool) (s : List ℕ) (y c : ℕ) → y < page_h → c < page_w
      → set (partly F fill page done s) (place_of shear shear_x w y c) (get_or page (y * page_w + c) fill) ≡ partly F fill page (λ i. done i || eqb i (y * page_w + c)) s
  unfolding row_of column_of
  dot-moved done s y c ly lc =
      let p = shown done fill page in
      let lp : length p ≡ page_w * page_h = length-shown done fill page ∙ fits.page_size in
      let lx : column_of F c y < w = (let e = fits.inside (y + get_or shear c 0) in omega arith) in
      let lr : row_of F c y < h = (let e = fits.above c in omega arith) in
      over-set (levelled F fill p) s (place_of shear shear_x w y c) _ (omega (arith, length-levelled F fill p, dot-inside w h (column_of F c y) (row_of F c y) lx lr))
      ∙ ap (λ l. over l s)
      (levelled-set F fill p c y (get_or page (y * page_w + c) fill) lc ly lp lx lr
      ∙ ap (levelled F fill) (shown-set done fill page (y * page_w + c) (omega (arith, fits.page_size, dot-inside page_w page_h c y lc ly))))

  -- the next dot of a part, number n of those from column c on, stored at its place
  pub dot-stored : (done : ℕ → Bool) (s : List ℕ) (y c n : ℕ) (before after : List ℕ) → y < page_h → c + n < page_w
      → before ≡ partly F fill page (or_range done (y * page_w + c) (y * page_w + c + n)) s
      → after ≡ set before (place_of shear shear_x w y (c + n)) (get_or page (y * page_w + (c + n)) 0)
      → after ≡ partly F fill page (or_range done (y * page_w + c) (y * page_w + c + (n + 1))) s
  dot-stored done s y c n before after ly q b e =
      let a = y * page_w + c in
      let z : y * page_w + (c + n) ≡ a + n = sym (add_assoc (y * page_w) c n) in
      let k : y * page_w + (c + n) < length page = omega (arith, fits.page_size, dot-inside page_w page_h (c + n) y q ly) in
      e
      ∙ ((λ t. set (b t) (place_of shear shear_x w y (c + n)) (get_or-default page (y * page_w + (c + n)) 0 fill k t))
      ∙ (dot-moved (or_range done a (a + n)) s y (c + n) ly q
      ∙ ap (λ p. over (levelled F fill p) s) (shown-ext _ _ fill page (λ j m. ap (λ v. or_range done a (a + n) j || eqb j v) z ∙ (range-more (done j) a n j ∙ ap (λ v. or_range done a (a + v) j) (sym (add-one n)))))))

  -- a part behind another
  pub part-joined : (done : ℕ → Bool) (s : List ℕ) (y c n m : ℕ)
      → partly F fill page (or_range (or_range done (y * page_w + c) (y * page_w + c + n)) (y * page_w + (c + n)) (y * page_w + (c + n) + m)) s
      ≡ partly F fill page (or_range done (y * page_w + c) (y * page_w + c + (n + m))) s
  part-joined done s y c n m =
      let a = y * page_w + c in
      let z : y * page_w + (c + n) ≡ a + n = sym (add_assoc (y * page_w) c n) in
      ap (λ p. over (levelled F fill p) s) (shown-ext _ _ fill page (λ j l. ap (λ v. or_range (or_range done a (a + n)) v (v + m) j) z ∙ range-joined (done j) a n m j))

  -- a part that holds only added dots' value is done as it stands
  pub part-skipped : (done : ℕ → Bool) (s : List ℕ) (y c n : ℕ) → y < page_h → c + n ≤ page_w → ((i : ℕ) → i < n → get_or page (y * page_w + (c + i)) 0 ≡ fill)
      → partly F fill page done s ≡ partly F fill page (or_range done (y * page_w + c) (y * page_w + c + n)) s
  part-skipped done s y c n ly l h = ap (λ p. over (levelled F fill p) s) (shown-blank _ _ fill page (λ j k. at j k (dec_le a j) (dec_lt j (a + n))))
    where
      a : ℕ
      a = y * page_w + c

      or-false : (b : Bool) → b ≡ (b || false)
      or-false true = refl
      or-false false = refl

      at : (j : ℕ) → j < length page → Dec (a ≤ j) → Dec (j < a + n) → (done j ≡ or_range done a (a + n) j) ⊎ (get_or page j fill ≡ fill)
      at j k (yes u) (yes v) =
          let e : y * page_w + (c + (j - a)) ≡ j = sym (add_assoc (y * page_w) c (j - a)) ∙ (let z : a + (j - a) ≡ j = omega arith in z) in
          inr (get_or-default page j fill 0 k ∙ (ap (λ z. get_or page z 0) (sym e) ∙ h (j - a) (omega arith)))
      at j k (no u) v = inl (or-false (done j) ∙ ap (λ b. done j || b) (sym (rw (lt-leb a j (omega arith)))))
      at j k (yes u) (no v) = inl (or-false (done j) ∙ ap (λ b. done j || b) (sym (rw (le-leb a j u, le-ltb j (a + n) (omega arith)))))

  -- .. and so is the next dot of a part, where it is as added dots are
  pub dot-passed : (done : ℕ → Bool) (s : List ℕ) (y c n : ℕ) → y < page_h → c + n < page_w → get_or page (y * page_w + (c + n)) 0 ≡ fill
      → partly F fill page (or_range done (y * page_w + c) (y * page_w + c + n)) s ≡ partly F fill page (or_range done (y * page_w + c) (y * page_w + c + (n + 1))) s
  dot-passed done s y c n ly q e =
      part-skipped (or_range done (y * page_w + c) (y * page_w + c + n)) s y (c + n) 1 ly (omega arith) (λ i l. ap (λ z. get_or page (y * page_w + z) 0) (let k : c + n + i ≡ c + n = omega arith in k) ∙ e)
      ∙ part-joined done s y c n 1

  -- one more row of a tile
  pub row_moved : (done : ℕ → Bool) (s : List ℕ) (y c n : ℕ) → partly F fill page (or_range (or_rows done page_w c n y) (y * page_w + c) (y * page_w + c + n)) s ≡ partly F fill page (or_rows done page_w c n (y + 1)) s
  unfolding or_rows
  row_moved done s y c n = ap (λ k. partly F fill page (or_rows done page_w c n k) s) (sym (add-one y))

  -- at first none is done
  pub none_done : table (λ _. fill) (w * h) ≡ levelled F fill (shown (λ _. false) fill page)
  unfolding levelled
  none_done = table-ext _ _ (w * h) (λ i l. sym (at (added-or-source F (i % w) (i / w))))
    where
      at : {x y : ℕ} → ((fill : ℕ) (page : List ℕ) → level_at F fill page x y ≡ fill) ⊎ Source F x y → level_at F fill (shown (λ _. false) fill page) x y ≡ fill
      at (inl e) = e fill (shown (λ _. false) fill page)
      at (inr S) = S.value fill (shown (λ _. false) fill page) ∙ blank (S.r * page_w + S.c) (omega (arith, fits.page_size, dot-inside page_w page_h S.c S.r S.c_in S.r_in))
        where
          blank : (j : ℕ) → j < length page → get_or (shown (λ _. false) fill page) j fill ≡ fill
          blank j l = unfold shown in get_or-table _ (length page) j fill l

  -- at last all are
  pub all_done : (done : ℕ → Bool) (s : List ℕ) → ((y c : ℕ) → y < page_h → c < page_w → done (y * page_w + c) ≡ true) → partly F fill page done s ≡ over (levelled F fill page) s
  all_done done s d =
      ap (λ p. over (levelled F fill p) s)
      (shown-all done fill page (λ j l. subst (λ i. done i ≡ true) (div-add-mod' j page_w) (d (j / page_w) (j % page_w) (row j l) (mod-lt j (wide page_w j (omega (arith, fits.page_size)))))))
    where
      wide : (w j : ℕ) → j < w * page_h → 0 < w
      wide zero j l = absurd (omega (arith, zero-mul page_h))
      wide (suc w) j l = omega arith

      row : (j : ℕ) → j < length page → j / page_w < page_h
      row j l = (div-lt_iff_lt-mul (wide page_w j (omega (arith, fits.page_size)))).1 (omega (arith, fits.page_size, mul_comm page_w page_h))

-- ---- a part that holds one value
pub part-all : (page : List ℕ) (v b c n : ℕ) → b + c + n ≤ length page → ((i : ℕ) → i < length (take (b + c + n - (b + c)) (drop (b + c) page)) → get_or (take (b + c + n - (b + c)) (drop (b + c) page)) i 0 ≡ v)
    → (i : ℕ) → i < n → get_or page (b + (c + i)) 0 ≡ v
part-all page v b c n l h i k =
    ap (λ z. get_or page z 0) (sym (add_assoc b c i))
    ∙ (sym (get_or-take (b + c + n - (b + c)) (drop (b + c) page) i 0 (omega arith) ∙ get_or-drop (b + c) page i 0)
    ∙ h i (simp (length-take, length-drop) (omega arith)))

-- ---- a tile, row by row
pub rows-keep : (done : ℕ → Bool) (w c n y j : ℕ) → done j ≡ true → or_rows done w c n y j ≡ true
unfolding or_rows
rows-keep done w c n zero j e = e
rows-keep done w c n (suc y) j e = kept (or_rows done w c n y j) _ (rows-keep done w c n y j e)

pub rows-cover : (done : ℕ → Bool) (w c n y r k : ℕ) → r < y → c ≤ k → k < c + n → or_rows done w c n y (r * w + k) ≡ true
unfolding or_rows
rows-cover done w c n zero r k l a b = absurd (not-suc-le-zero l)
rows-cover done w c n (suc y) r k l a b = go (ℕ_discrete r y) (λ q. rows-cover done w c n y r k q a b)
  where
    go : Dec (r ≡ y) → (r < y → or_rows done w c n y (r * w + k) ≡ true) → or_range (or_rows done w c n y) (y * w + c) (y * w + c + n) (r * w + k) ≡ true
    go (yes e) ih =
        let q : r * w ≡ y * w = ap (λ z. z * w) e in
        in-range (or_rows done w c n y (r * w + k)) (y * w + c) (y * w + c + n) (r * w + k) (omega arith) (omega arith)
    go (no e) ih = kept (or_rows done w c n y (r * w + k)) _ (ih (omega arith))

-- where a dot of page row y is stored lies in the plane, whichever frame row's shear is taken
pub place_inside : (shear shear_x : List ℕ) (w y column m : ℕ) → column < length shear → ((k : ℕ) → y + get_or shear k 0 < length shear_x) → ((r : ℕ) → get_or shear_x r 0 + length shear ≤ w) → w * length shear_x ≤ m
    → (r : ℕ) → (y + get_or shear column 0) * w + (column + get_or shear_x r 0) < m
place_inside shear shear_x w y column m l rows inside room r =
    let x : column + get_or shear_x r 0 < w = (let e = inside r in omega arith) in
    let d = dot-inside w (length shear_x) (column + get_or shear_x r 0) (y + get_or shear column 0) x (rows column) in
    omega arith

-- the lengths fit for the frame's height by its table too, and for another plane as long
pub fits-again : (page_w page_h : ℕ) (shear shear_x : List ℕ) (w h : ℕ) (page s out : List ℕ) → PlaneFits (frame_of page_w page_h shear shear_x w h) page s → length out ≡ length s
    → PlaneFits (frame_of page_w page_h shear shear_x w (length shear_x)) page out
fits-again page_w page_h shear shear_x w h page s out F e =
    record {
      page_size = F.page_size;
      columns = F.columns;
      rows = refl;
      inside = F.inside;
      above = λ c. (let a = F.above c in let r = F.rows in omega arith);
      out_size = (let o = F.out_size in let k : w * length shear_x ≡ w * h = ap (λ z. w * z) F.rows in omega arith);
    }

-- ---- tile by tile: what the columns before c hold
pub record Tiled (f : Frame) (fill : ℕ) (page before out : List ℕ) (c : ℕ) : Type 0 where
  pub done : ℕ → Bool
  pub covered : (y k : ℕ) → y < f.page_h → k < c → done (y * f.page_w + k) ≡ true
  pub holds : (s : List ℕ) → before ≡ partly f fill page (λ _. false) s → out ≡ partly f fill page done s

pub tiled-none : (f : Frame) (fill : ℕ) (page out : List ℕ) → Tiled f fill page out out 0
tiled-none f fill page out = record { done = λ _. false; covered = λ y k l m. absurd (not-suc-le-zero m); holds = λ s e. e }

pub tiled-more : (f : Frame) (fill : ℕ) (page before out now : List ℕ) (c n : ℕ) → Tiled f fill page before out c
    → ((done : ℕ → Bool) (s : List ℕ) → out ≡ partly f fill page done s → now ≡ partly f fill page (or_rows done f.page_w c n f.page_h) s) → Tiled f fill page before now (c + n)
tiled-more f fill page before out now c n T h =
    record {
      done = or_rows T.done f.page_w c n f.page_h;
      covered = λ y k l m. at y k l m (dec_lt k c);
      holds = λ s e. h T.done s (T.holds s e);
    }
  where
    at : (y k : ℕ) → y < f.page_h → k < c + n → Dec (k < c) → or_rows T.done f.page_w c n f.page_h (y * f.page_w + k) ≡ true
    at y k l m (yes q) = rows-keep T.done f.page_w c n f.page_h (y * f.page_w + k) (T.covered y k l q)
    at y k l m (no q) = rows-cover T.done f.page_w c n f.page_h y k l (omega arith) m

-- a frame plane filled first, then moved tile by tile, is the levelled page
pub tiled-all : (page_w page_h : ℕ) (shear shear_x : List ℕ) (w h fill : ℕ) (page s v before out : List ℕ) (c m n : ℕ) → PlaneFits (frame_of page_w page_h shear shear_x w h) page s
    → before ≡ put_mid 0 n s v → v ≡ table (λ _. fill) m → m ≡ w * h → n ≡ w * h → Tiled (frame_of page_w page_h shear shear_x w h) fill page before out c → c ≡ page_w
    → out ≡ over (levelled (frame_of page_w page_h shear shear_x w h) fill page) s
tiled-all page_w page_h shear shear_x w h fill page s v before out c m n fits b q k e T g =
    let F = frame_of page_w page_h shear shear_x w h in
    let filled : v ≡ levelled F fill (shown (λ _. false) fill page) = q ∙ (ap (table (λ _. fill)) k ∙ none_done page_w page_h shear shear_x w h fill page s fits) in
    T.holds s (b ∙ (λ t. put_mid 0 (e t) s (filled t)) ∙ ap (λ z. levelled F fill (shown (λ _. false) fill page) ++ drop z s) (sym (length-levelled F fill (shown (λ _. false) fill page))))
    ∙ all_done page_w page_h shear shear_x w h fill page s fits T.done s (λ y k l m. T.covered y k l (omega arith))

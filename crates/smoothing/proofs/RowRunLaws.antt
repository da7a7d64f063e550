-- The walk over the runs of rows: what each run does to the smoothed runs.
use mathlib.Core.Path.{◌≡◌, refl, sym, ap, ◌∙◌, subst}
use mathlib.Core.List.{List, [], ◌∷◌, ◌++◌}
use mathlib.Core.Bool.{Bool, true, false, true≢false}
use Prim.Native.Nat.{ℕ, suc, ◌+◌, ◌-◌, ◌*◌, ◌/◌, ◌%◌, ◌≤◌, ◌<◌}
use native.Mathlib.Nat.{le_refl, not-suc-le-zero, mul_comm, mul-mod_left, mul-mod_right, mul-le-mul, suc-mul, mod-eq_of_lt, mul-add-mod_self_right}
use native.Mathlib.Numerals.{add-one}
use native.Mathlib.Decide.{ℕ_discrete, dec_lt, dec_le}
use native.Mathlib.Omega.{arith}
use borrow.Author.Tests.{le-leb, lt-leb}
use lib.ListN.{get_or}
use lib.Dec.{eqb}
use Rattle.memory.proofs.PlaneLaws.{dot-row}
use Rattle.memory.specs.rules.Masks.{is_ink}
use Rattle.labelling.specs.stages.InkRuns.{ink_before, turns, run_count, run_of, Runs}
use Rattle.memory.proofs.PlaceLaws.{count_low}
use Rattle.labelling.proofs.TouchLaws.{starts-rise}
use Rattle.labelling.proofs.RunLabelLaws.{ink_before-row}
use Rattle.sorting.specs.rules.Kinds.{glyph_kind}
use Rattle.smoothing.specs.stages.RowRuns.{glyph_dot, ended_turns, SmoothingInput, smoothed_page, start_at, end_at, glyph_of, Passed}
use Rattle.smoothing.proofs.StretchLaws.{begun_turns, turns-blank, ink-one, ended-ink, ended-run, count-run}
use Rattle.smoothing.proofs.RunNumberLaws.{runs-are, label-shared}
use Rattle.smoothing.proofs.SmoothedDots.{glyph_ink, smoothed-on, gap-fresh, gap_row, tail-blank}

off_of : (t : Bool) → (t ≡ true → ⊥) → t ≡ false
off_of false h = refl
off_of true h = absurd (h refl)

module _ (g : SmoothingInput) where
  abbrev mask : List ℕ
  mask = smoothed_page g

  abbrev R : Runs g.w g.m (g.w * g.h) (run_count g.w g.m (g.w * g.h)) (start_at g) (end_at g) (run_of g.w g.m)
  R = runs-are g.w g.h g.m g.asks.wide

  run_in : {k : ℕ} → k < g.c → k < run_count g.w g.m (g.w * g.h)
  run_in {k} l = let e = g.asks.numbered.held.count in omega arith

  pub run-some : (j : ℕ) → j < g.c → start_at g j < end_at g j
  run-some j l = R.some j (run_in l)

  -- the dots of a page are few
  pub dots-few : g.w * g.h ≤ 402595842
  dots-few = mul-le-mul g.asks.narrow g.asks.low

  pub runs-few : g.c ≤ g.w * g.h
  unfolding run_count
  runs-few = let e = g.asks.numbered.held.count in let l : run_count g.w g.m (g.w * g.h) ≤ g.w * g.h = count_low _ (g.w * g.h) in omega arith

  glyph-shared : (j i : ℕ) → j < g.c → start_at g j ≤ i → i < end_at g j → glyph_of g i ≡ glyph_of g (start_at g j)
  unfolding glyph_dot
  glyph-shared j i l a b = ap (λ k. eqb (get_or (0 ∷ g.ks) k 0) glyph_kind) (label-shared g.w g.h g.m g.asks.wide j i (run_in l) a b)

  -- Where a run lies

  -- a dot of row y that is past its start is no start of a row
  inner : (y k : ℕ) → y * g.w < k → k < y * g.w + g.w → k % g.w ≡ 0 → ⊥
  inner y k a b z =
      let x : y * g.w + (k - y * g.w) ≡ k = omega arith in
      let q : (y * g.w + (k - y * g.w)) % g.w ≡ k - y * g.w = mul-add-mod_self_right y g.w (k - y * g.w) ∙ mod-eq_of_lt (let t : k - y * g.w < g.w = omega arith in t) in
      let r : k % g.w ≡ k - y * g.w = ap (λ t. t % g.w) (sym x) ∙ q in
      omega arith

  -- a run that starts in row y ends there
  run_row : (y j : ℕ) → j < g.c → y * g.w ≤ start_at g j → start_at g j < y * g.w + g.w → end_at g j ≤ y * g.w + g.w
  run_row y j l a b = go (dec_le (end_at g j) (y * g.w + g.w))
    where
      go : Dec (end_at g j ≤ y * g.w + g.w) → end_at g j ≤ y * g.w + g.w
      go (yes d) = d
      go (no d) =
          let r = R.row j (y * g.w + g.w) (run_in l) (omega arith) (omega arith) in
          let e : start_at g j / g.w ≡ y = ap (λ t. t / g.w) (let x : start_at g j ≡ y * g.w + (start_at g j - y * g.w) = omega arith in x) ∙ dot-row g.w (start_at g j - y * g.w) y (omega arith) in
          let f : (y * g.w + g.w) / g.w ≡ suc y = ap (λ t. t / g.w) ((let x : y * g.w + g.w ≡ y * g.w + g.w + 0 = omega arith in x) ∙ ap (λ t. t + 0) (sym (suc-mul y g.w))) ∙ dot-row g.w 0 (suc y) g.asks.wide in
          absurd (omega arith)

  module _ {y j n : ℕ} (P : Passed g y j n) where
    -- no glyph dot from the last glyph run's end up to the next run
    quiet : j < g.c → (i : ℕ) → n ≤ i → i < start_at g j → glyph_of g i ≡ false
    quiet l i a b =
        off_of (glyph_of g i)
        (λ e.
        let s = R.some j (run_in l) in
        let wi = R.within j (run_in l) in
        let li : i < g.w * g.h = omega arith in
        let ink = glyph_ink g.w g.h g.m g.ks g.plane g.gap g.asks.wide g.asks.plane_is i li e in
        let k = P.clear i a li e in
        let r = starts-rise g.w g.m g.asks.wide (g.w * g.h) _ (start_at g) (end_at g) (run_of g.w g.m) R j (run_of g.w g.m i) k (R.has i li ink) in
        let f = R.from i li ink in
        omega arith)

  -- The next run is one of a glyph, in row y
  module _ {y j n : ℕ} (P : Passed g y j n) (l : j < g.c) (ly : y < g.h) (here : start_at g j < y * g.w + g.w) (glyph : glyph_of g (start_at g j) ≡ true) where
    some : start_at g j < end_at g j
    some = R.some j (run_in l)

    within : end_at g j ≤ g.w * g.h
    within = R.within j (run_in l)

    low : y * g.w ≤ start_at g j
    low = (P.next j (le_refl j) l).0

    behind : n ≤ start_at g j
    behind = (P.next j (le_refl j) l).1

    upto : end_at g j ≤ y * g.w + g.w
    upto = run_row y j l low here

    own : (i : ℕ) → start_at g j ≤ i → i < end_at g j → is_ink mask i ≡ true
    own i a b = smoothed-on g.w g.h g.m g.ks g.plane g.gap g.asks.wide g.asks.plane_is i (let z = within in omega arith) (glyph-shared j i l a b ∙ glyph)

    -- its first dot is in the smoothed run that has its last
    pub run-count : run_count g.w mask (suc (start_at g j)) ≡ run_count g.w mask (end_at g j)
    run-count = count-run g.w mask g.asks.wide (start_at g j) (end_at g j) some own (λ k a b. inner y k (let z = low in omega arith) (let z = upto in omega arith))

    -- the last glyph run is in the same row and not far
    pub turns-joined : y * g.w < n → start_at g j - n ≤ g.gap → (ended_turns g.w mask n ≡ begun_turns g.w mask (n - 1) ++ (n ∷ [])) × (ended_turns g.w mask (end_at g j) ≡ begun_turns g.w mask (n - 1) ++ (end_at g j ∷ []))
    turns-joined ln near = (
      ap (ended_turns g.w mask) (sym one) ∙ (ink-one g.w mask (n - 1) (all (n - 1) (le_refl (n - 1)) (let a = some in let b = behind in omega arith)) ∙ ap (λ i. begun_turns g.w mask (n - 1) ++ (i ∷ [])) one),
      ended-ink g.w mask (n - 1) (end_at g j) (let a = some in let b = behind in omega arith) all (λ k a b. inner y k (omega arith) (let z = upto in omega arith)),
    )
      where
        one : suc (n - 1) ≡ n
        one = omega arith

        last : glyph_of g (n - 1) ≡ true
        last = P.on (omega arith)

        all : (k : ℕ) → n - 1 ≤ k → k < end_at g j → is_ink mask k ≡ true
        all k a b = go (dec_lt k n) (dec_lt k (start_at g j))
          where
            go : Dec (k < n) → Dec (k < start_at g j) → is_ink mask k ≡ true
            go (yes c) d = smoothed-on g.w g.h g.m g.ks g.plane g.gap g.asks.wide g.asks.plane_is k (let z = within in omega arith) (ap (glyph_of g) (let e : k ≡ n - 1 = omega arith in e) ∙ last)
            go (no c) (yes d) =
                gap_row g.w g.h g.m g.ks g.plane g.gap g.asks.wide g.asks.plane_is n (start_at g j) y (quiet P l) ly ln behind here last glyph k (omega arith) d
                ∙ le-leb (start_at g j - n) g.gap near
            go (no c) (no d) = own k (omega arith) b

    -- there is none in the row, or it is too far
    anew : ((i : ℕ) → n ≤ i → i < start_at g j → is_ink mask i ≡ false) → (n ≡ start_at g j → ink_before g.w mask n ≡ false) → ended_turns g.w mask (end_at g j) ≡ (ended_turns g.w mask n ++ (start_at g j ∷ [])) ++ (end_at g j ∷ [])
    anew blank edge =
        let t = turns-blank g.w mask n (start_at g j) behind blank edge in
        ended-run g.w mask (start_at g j) (end_at g j) t.1 some own (λ k a b. inner y k (let z = low in omega arith) (let z = upto in omega arith))
        ∙ ap (λ (z : List ℕ). (z ++ (start_at g j ∷ [])) ++ (end_at g j ∷ [])) t.0

    pub turns-first : n ≤ y * g.w → ended_turns g.w mask (end_at g j) ≡ (ended_turns g.w mask n ++ (start_at g j ∷ [])) ++ (end_at g j ∷ [])
    turns-first ln =
        anew
        (gap-fresh g.w g.h g.m g.ks g.plane g.gap g.asks.wide g.asks.plane_is n (start_at g j) y (quiet P l) ly ln low here)
        (λ e. ink_before-row g.w mask n (ap (λ z. z % g.w) (let a = low in let q : n ≡ y * g.w = omega arith in q) ∙ mul-mod_left y g.w))

    pub turns-far : y * g.w < n → g.gap < start_at g j - n → ended_turns g.w mask (end_at g j) ≡ (ended_turns g.w mask n ++ (start_at g j ∷ [])) ++ (end_at g j ∷ [])
    turns-far ln far =
        anew
        (λ i a b.
        gap_row g.w g.h g.m g.ks g.plane g.gap g.asks.wide g.asks.plane_is n (start_at g j) y (quiet P l) ly ln behind here (P.on (omega arith)) glyph i a b
        ∙ lt-leb (start_at g j - n) g.gap far)
        (λ e. absurd (omega arith))

    -- what is passed then
    pub pass-glyph : Passed g y (suc j) (end_at g j)
    pass-glyph =
        record {
          row = P.row;
          upto = l;
          next = λ k a b. ((P.next k (omega arith) b).0, R.rising j k a (run_in b));
          inside = (upto, within);
          clear = λ i a b e.
              let ink = glyph_ink g.w g.h g.m g.ks g.plane g.gap g.asks.wide g.asks.plane_is i b e in
              later i b ink a (P.clear i (let z = some in let q = behind in omega arith) b e) (ℕ_discrete (run_of g.w g.m i) j);
          on = λ z. let q = some in glyph-shared j (end_at g j - 1) l (omega arith) (omega arith) ∙ glyph;
        }
      where
        later : (i : ℕ) → i < g.w * g.h → is_ink g.m i ≡ true → end_at g j ≤ i → j ≤ run_of g.w g.m i → Dec (run_of g.w g.m i ≡ j) → suc j ≤ run_of g.w g.m i
        later i b ink a k (yes e) = absurd (let u = R.upto i b ink in let v : end_at g (run_of g.w g.m i) ≡ end_at g j = ap (end_at g) e in omega arith)
        later i b ink a k (no ne) = omega arith

  -- the next run is one of no glyph
  pub pass-other : {y j n : ℕ} → Passed g y j n → j < g.c → glyph_of g (start_at g j) ≡ false → Passed g y (suc j) n
  pass-other {y} {j} {n} P l off =
      record {
        row = P.row;
        upto = l;
        next = λ k a b. P.next k (omega arith) b;
        inside = P.inside;
        clear = λ i a b e.
            let ink = glyph_ink g.w g.h g.m g.ks g.plane g.gap g.asks.wide g.asks.plane_is i b e in
            later i b e ink (P.clear i a b e) (ℕ_discrete (run_of g.w g.m i) j);
        on = P.on;
      }
    where
      later : (i : ℕ) → i < g.w * g.h → glyph_of g i ≡ true → is_ink g.m i ≡ true → j ≤ run_of g.w g.m i → Dec (run_of g.w g.m i ≡ j) → suc j ≤ run_of g.w g.m i
      later i b e ink k (yes q) =
          let f = R.from i b ink in
          let u = R.upto i b ink in
          let f' : start_at g j ≤ i = subst (λ z. start_at g z ≤ i) q f in
          let u' : i < end_at g j = subst (λ z. i < end_at g z) q u in
          absurd (true≢false (sym e ∙ (glyph-shared j i l f' u' ∙ off)))
      later i b e ink k (no ne) = omega arith

  -- the next row
  pub pass-row : {y j n : ℕ} → Passed g y j n → y < g.h → (j < g.c → y * g.w + g.w ≤ start_at g j) → Passed g (y + 1) j n
  pass-row {y} {j} {n} P ly past =
      let e : (y + 1) * g.w ≡ y * g.w + g.w = ap (λ z. z * g.w) (add-one y) ∙ suc-mul y g.w in
      let i₀ = P.inside.0 in
      record {
        row = omega arith;
        upto = P.upto;
        next = λ k a b. (
          (let p = past (omega arith) in let r = starts-rise g.w g.m g.asks.wide (g.w * g.h) _ (start_at g) (end_at g) (run_of g.w g.m) R j k a (run_in b) in omega arith),
          (P.next k a b).1,
        );
        inside = (omega arith, P.inside.1);
        clear = P.clear;
        on = P.on;
      }

  pub pass-none : Passed g 0 0 0
  pass-none =
      let z : 0 * g.w ≡ 0 = omega arith in
      record {
        row = omega arith;
        upto = omega arith;
        next = λ k a b. (omega arith, omega arith);
        inside = (omega arith, omega arith);
        clear = λ i a b e. omega arith;
        on = λ q. absurd (not-suc-le-zero q);
      }

  -- after the last row no run is left
  pub pass_all : {y j n : ℕ} → Passed g y j n → g.h ≤ y → j ≡ g.c
  pass_all {y} {j} {n} P ly = go (dec_lt j g.c)
    where
      go : Dec (j < g.c) → j ≡ g.c
      go (yes l) =
          let a = (P.next j (le_refl j) l).0 in
          let b = R.some j (run_in l) in
          let d = R.within j (run_in l) in
          let e : y * g.w ≡ g.w * g.h = ap (λ z. z * g.w) (let r = P.row in let q : y ≡ g.h = omega arith in q) ∙ mul_comm g.h g.w in
          absurd (omega arith)
      go (no l) = let u = P.upto in omega arith

  -- and what was smoothed are all turns
  pub pass-turns : {y n : ℕ} → Passed g y g.c n → turns g.w mask (g.w * g.h) ≡ ended_turns g.w mask n
  pass-turns {y} {n} P =
      (turns-blank g.w mask n (g.w * g.h) P.inside.1
      (tail-blank g.w g.h g.m g.ks g.plane g.gap g.asks.wide g.asks.plane_is n
      (λ i a b.
      off_of (glyph_of g i)
      (λ e.
      let ink = glyph_ink g.w g.h g.m g.ks g.plane g.gap g.asks.wide g.asks.plane_is i b e in
      let k = P.clear i a b e in
      let u = R.has i b ink in
      let z = g.asks.numbered.held.count in
      omega arith)))
      (λ e. ink_before-row g.w mask n (ap (λ z. z % g.w) e ∙ mul-mod_right g.w g.h))
      ).0

-- One run more in the walk over the runs of rows, and the walk's ends.
use mathlib.Core.Path.{◌≡◌, refl, sym, ap, ◌∙◌, subst}
use mathlib.Core.List.{List, [], ◌∷◌, ◌++◌}
use mathlib.Core.Bool.{Bool, true, false, cond, ◌&&◌, true≢false}
use Prim.Native.Nat.{ℕ, suc, ◌+◌, ◌-◌, ◌*◌, ◌≤◌, ◌<◌, max}
use native.Mathlib.Nat.{le_refl, not-suc-le-zero, suc-mul}
use native.Mathlib.Numerals.{add-one}
use native.Mathlib.Decide.{dec_lt}
use native.Mathlib.Omega.{arith}
use borrow.Author.Tests.{lt-ltb, ltb-true, ltb-false, leb-true, leb-false, eq-eqb}
use lib.ListN.{get_or, length, take, drop, set, length-drop}
use lib.Seq.{get_or-take, get_or-set_same, get_or-set_other, ext_get_or, length-take-le, drop-set-add, take-set-le}
use lib.Dec.{eqb, ltb, leb}
use Rattle.memory.specs.rules.Lists.{count_if}
use Rattle.labelling.specs.rules.Labels.{labelling}
use Rattle.labelling.specs.stages.InkRuns.{ink_before, append_if, turns, run_count, run_of, is_root}
use Rattle.labelling.specs.stages.Linking.{first_run}
use Rattle.memory.proofs.PlaceLaws.{count_low, count-mono, count_yes, count-step}
use Rattle.labelling.proofs.TurnLaws.{snoc-len}
use Rattle.labelling.proofs.TouchLaws.{and_both}
use Rattle.labelling.proofs.RunLabelLaws.{turns-even}
use Rattle.sorting.specs.rules.Kinds.{glyph_kind}
use Rattle.smoothing.specs.rules.Lines.{first_dot}
use Rattle.smoothing.specs.stages.RowRuns.{glyph_run, glyph_runs, SmoothLeft, ended_turns, met_before, SmoothingInput, smoothed_page, start_at, end_at, number_at, glyph_of, PageKept, Passed, RowWalk}
use Rattle.smoothing.proofs.StretchLaws.{begun_turns, ended-length}
use Rattle.smoothing.proofs.RunNumberLaws.{met_all, met_next, first-met}
use Rattle.smoothing.proofs.RowWordLaws.{words-joined, words-anew, kept_set, kept-first, number-range, glyph-kind}
use Rattle.smoothing.proofs.RowRunLaws.{run-some, dots-few, runs-few, run-count, turns-joined, turns-first, turns-far, pass-glyph, pass-other, pass-row, pass-none, pass_all, pass-turns}

-- a word behind those read
words-front : (s : List ℕ) (a k q v : ℕ) → a + k ≤ q → take k (drop a (set s q v)) ≡ take k (drop a s)
words-front s a k q v l =
    ap (λ i. take k (drop a (set s i v))) (let e : q ≡ a + (q - a) = omega arith in e)
    ∙ (ap (take k) (drop-set-add a s (q - a) v) ∙ take-set-le k (drop a s) (q - a) v (omega arith))

-- a glyph run more is among the smoothed runs; its component is still to come
pub record Added (g : SmoothingInput) (s s' : List ℕ) (j r : ℕ) : Type 0 where
  pub kept : PageKept g s'
  pub high : (i : ℕ) → g.kinds ≤ i → get_or s' i 0 ≡ get_or s i 0
  pub runs : take (2 * r) (drop (3 * g.c) s') ≡ ended_turns g.w (smoothed_page g) (end_at g j)
  pub fits : r ≤ count_if (glyph_run g.w g.h g.m g.ks) (suc j)
  pub some : 0 < r

module _ (g : SmoothingInput) where
  in_all : {j : ℕ} → j < g.c → j < run_count g.w g.m (g.w * g.h)
  in_all {j} l = let e = g.asks.numbered.held.count in omega arith

  -- the smoothed runs so far fit
  few : (j r : ℕ) → j < g.c → r ≤ count_if (glyph_run g.w g.h g.m g.ks) (suc j) → (3 * g.c + 3 * r ≤ g.kinds) × (r ≤ 402595842)
  few j r l f =
      let u = count-mono (glyph_run g.w g.h g.m g.ks) (suc j) (run_count g.w g.m (g.w * g.h)) (in_all l) in
      let b = g.asks.before in
      let d = count_low (glyph_run g.w g.h g.m g.ks) (suc j) in
      let e = runs-few g in
      let h = dots-few g in
      (omega arith, omega arith)

  -- how many they are
  count_is : (s : List ℕ) (r n : ℕ) → 3 * g.c + 2 * r ≤ length s → take (2 * r) (drop (3 * g.c) s) ≡ ended_turns g.w (smoothed_page g) n → r ≡ run_count g.w (smoothed_page g) n
  count_is s r n room e =
      let l : length (take (2 * r) (drop (3 * g.c) s)) ≡ 2 * r = length-take-le (2 * r) (drop (3 * g.c) s) (let q = length-drop (3 * g.c) s in omega arith) in
      let a = ap length e in
      let b = ended-length g.w (smoothed_page g) g.asks.wide n in
      omega arith

  module _ {s : List ℕ} {y j r newest last : ℕ} (W : RowWalk g s y j r newest last) (l : j < g.c) where
    long : g.kinds + length g.ks ≤ length s
    long = let a = W.kept.len in let b = g.asks.room in let d = g.asks.between in omega arith

    pub last-before : last ≤ start_at g j
    last-before = go (dec_lt 0 last)
      where
        go : Dec (0 < last) → last ≤ start_at g j
        go (yes h) = let a = (W.some h).0 in let b = (W.passed.next j (le_refl j) l).1 in omega arith
        go (no h) = omega arith

    -- Runs of no glyph

    -- the components met up to run j: a number that is not met before it is its own
    met-with : (met_before g.w g.h g.m (suc j) ≡ max (met_before g.w g.h g.m j) (number_at g j)) × (met_before g.w g.h g.m (suc j) ≤ suc (met_before g.w g.h g.m j))
    met-with =
        (met_next g.w g.h g.m g.asks.wide j (in_all l), let u = count-step (is_root (first_run g.w (run_count g.w g.m (g.w * g.h)) (turns g.w g.m (g.w * g.h)))) j in omega arith)

    pub step_other : glyph_of g (start_at g j) ≡ false → RowWalk g s y (suc j) r newest last
    step_other off =
        record {
          kept = W.kept;
          end = W.end;
          passed = pass-other g W.passed l off;
          none = W.none;
          some = W.some;
          runs = W.runs;
          fits = let u = count-mono (glyph_run g.w g.h g.m g.ks) j (suc j) (let q : j ≤ suc j = omega arith in q) in let f = W.fits in omega arith;
          met = let m = met-with.0 in let n = W.met in omega arith;
          glyphs_met = λ k a e. met k a e (dec_lt k (met_before g.w g.h g.m j));
          first = W.first;
        }
      where
        met : (k : ℕ) → k < met_before g.w g.h g.m (suc j) → get_or g.ks k 0 ≡ glyph_kind → Dec (k < met_before g.w g.h g.m j) → k < newest
        met k a e (yes h) = W.glyphs_met k h e
        met k a e (no h) =
            let m₁ = met-with.0 in
            let m₂ = met-with.1 in
            let q : number_at g j - 1 ≡ k = omega arith in
            absurd (true≢false (sym (glyph-kind g j l ∙ (ap (λ z. eqb (get_or g.ks z 0) glyph_kind) q ∙ eq-eqb (get_or g.ks k 0) glyph_kind e)) ∙ off))

    -- Runs of a glyph

    module _ (ly : y < g.h) (here : start_at g j < y * g.w + g.w) (glyph : glyph_of g (start_at g j) ≡ true) where
      fits_more : r + 1 ≤ count_if (glyph_run g.w g.h g.m g.ks) (suc j)
      fits_more = let f = W.fits in let o = count_yes (glyph_run g.w g.h g.m g.ks) j glyph in omega arith

      fits_all : r + 1 ≤ glyph_runs g.w g.h g.m g.ks
      fits_all = let f = fits_more in let u = count-mono (glyph_run g.w g.h g.m g.ks) (suc j) (run_count g.w g.m (g.w * g.h)) (in_all l) in omega arith

      pub add-room : 3 * g.c + 2 * r + 2 ≤ g.kinds
      add-room = let f = (few j (r + 1) l fits_more).0 in omega arith

      -- the test that it joins the last one: both are in the row, and near
      near : (ltb 0 last && leb (start_at g j - last) g.gap) ≡ true → (last ≡ W.end) × (y * g.w < W.end) × (start_at g j - W.end ≤ g.gap)
      near e =
          let b = and_both (ltb 0 last) (leb (start_at g j - last) g.gap) e in
          let p = ltb-true 0 last b.0 in
          let n = leb-true (start_at g j - last) g.gap b.1 in
          let q = W.some p in
          let q₀ = q.0 in
          (q.0, q.1, omega arith)

      joined : (e : (ltb 0 last && leb (start_at g j - last) g.gap) ≡ true) → (ended_turns g.w (smoothed_page g) W.end ≡ begun_turns g.w (smoothed_page g) (W.end - 1) ++ (W.end ∷ [])) × (ended_turns g.w (smoothed_page g) (end_at g j) ≡ begun_turns g.w (smoothed_page g) (W.end - 1) ++ (end_at g j ∷ []))
      joined e = turns-joined g W.passed l ly here glyph (near e).1 (near e).2

      far : (ltb 0 last && leb (start_at g j - last) g.gap) ≡ false → ended_turns g.w (smoothed_page g) (end_at g j) ≡ (ended_turns g.w (smoothed_page g) W.end ++ (start_at g j ∷ [])) ++ (end_at g j ∷ [])
      far e = go (dec_lt 0 last)
        where
          go : Dec (0 < last) → ended_turns g.w (smoothed_page g) (end_at g j) ≡ (ended_turns g.w (smoothed_page g) W.end ++ (start_at g j ∷ [])) ++ (end_at g j ∷ [])
          go (yes h) =
              let q = W.some h in
              let q₀ = q.0 in
              let f : leb (start_at g j - last) g.gap ≡ false = sym (ap (λ t. t && leb (start_at g j - last) g.gap) (lt-ltb 0 last h)) ∙ e in
              let k = leb-false (start_at g j - last) g.gap f in
              turns-far g W.passed l ly here glyph q.1 (omega arith)
          go (no h) = turns-first g W.passed l ly here glyph (W.none (omega arith))

      pub some-run : (ltb 0 last && leb (start_at g j - last) g.gap) ≡ true → 0 < r
      some-run e =
          let t = ap length (W.runs ∙ (joined e).0) in
          let q = snoc-len (begun_turns g.w (smoothed_page g) (W.end - 1)) W.end in
          let a = length-take-le (2 * r) (drop (3 * g.c) s) (let d = length-drop (3 * g.c) s in let b = add-room in let k = long in omega arith) in
          omega arith

      added-join : (ltb 0 last && leb (start_at g j - last) g.gap) ≡ true → Added g s (set s (3 * g.c + 2 * r - 1) (end_at g j)) j r
      added-join e =
          let b = add-room in
          let a = fits_all in
          let p = some-run e in
          let k = long in
          record {
            kept = kept_set g s W.kept (3 * g.c + 2 * r - 1) (end_at g j) (omega arith) (omega arith);
            high = λ i h. get_or-set_other s (3 * g.c + 2 * r - 1) i (end_at g j) 0 (λ q. absurd (omega arith));
            runs = words-joined s (begun_turns g.w (smoothed_page g) (W.end - 1)) (3 * g.c) (2 * r) W.end (end_at g j) (omega arith) (W.runs ∙ (joined e).0) ∙ sym (joined e).1;
            fits = let f = fits_more in omega arith;
            some = p;
          }

      added-anew : (ltb 0 last && leb (start_at g j - last) g.gap) ≡ false → Added g s (set (set s (3 * g.c + 2 * r) (start_at g j)) (3 * g.c + 2 * r + 1) (end_at g j)) j (r + 1)
      added-anew e =
          let b = add-room in
          let a = fits_all in
          let k = long in
          let K₁ = kept_set g s W.kept (3 * g.c + 2 * r) (start_at g j) (omega arith) (omega arith) in
          record {
            kept = kept_set g (set s (3 * g.c + 2 * r) (start_at g j)) K₁ (3 * g.c + 2 * r + 1) (end_at g j) (omega arith) (omega arith);
            high = λ i h. get_or-set_other (set s (3 * g.c + 2 * r) (start_at g j)) (3 * g.c + 2 * r + 1) i (end_at g j) 0 (λ q. absurd (omega arith)) ∙ get_or-set_other s (3 * g.c + 2 * r) i (start_at g j) 0 (λ q. absurd (omega arith));
            runs =
                ap (λ i. take i (drop (3 * g.c) (set (set s (3 * g.c + 2 * r) (start_at g j)) (3 * g.c + 2 * r + 1) (end_at g j)))) (let q : 2 * (r + 1) ≡ suc (suc (2 * r)) = omega arith in q)
                ∙ (words-anew s (3 * g.c) (2 * r) (start_at g j) (end_at g j) (omega arith) ∙ (ap (λ (z : List ℕ). (z ++ (start_at g j ∷ [])) ++ (end_at g j ∷ [])) W.runs ∙ sym (far e)));
            fits = fits_more;
            some = omega arith;
          }

      pub step_run : (t : Bool) → t ≡ (ltb 0 last && leb (start_at g j - last) g.gap)
          → Added g s (cond t (set s (3 * g.c + 2 * r - 1) (end_at g j)) (set (set s (3 * g.c + 2 * r) (start_at g j)) (3 * g.c + 2 * r + 1) (end_at g j))) j (cond t r (r + 1))
      step_run true e = added-join (sym e)
      step_run false e = added-anew (sym e)

      module _ {s' : List ℕ} {r' : ℕ} (A : Added g s s' j r') where
        pub mark-room : (g.firsts + number_at g j ≤ length s') × (0 < r') × (r' < 4294967296)
        mark-room =
            let a = A.kept.len in
            let b = g.asks.room in
            let n = (number-range g j l).1 in
            let f = (few j r' l A.fits).1 in
            (omega arith, A.some, omega arith)

        held : 3 * g.c + 2 * r' ≤ g.kinds
        held = let f = (few j r' l A.fits).0 in omega arith

        run_is : r' - 1 ≡ run_of g.w (smoothed_page g) (start_at g j)
        unfolding run_of
        run_is =
            let a = A.kept.len in
            let b = g.asks.room in
            let d = g.asks.between in
            let h = held in
            let e = count_is s' r' (end_at g j) (omega arith) A.runs in
            ap (λ z. z - 1) (e ∙ sym (run-count g W.passed l ly here glyph))

        first-old : (k : ℕ) → k < newest → get_or g.ks k 0 ≡ glyph_kind → get_or s' (g.firsts + k) 0 ≡ run_of g.w (smoothed_page g) (first_dot (labelling g.w g.h g.m).labels (suc k))
        first-old k h e = A.high (g.firsts + k) (let d = g.asks.between in omega arith) ∙ W.first k h e

        -- the walk, whatever was marked
        marked : (s'' : List ℕ) → PageKept g s'' → take (2 * r') (drop (3 * g.c) s'') ≡ ended_turns g.w (smoothed_page g) (end_at g j)
            → ((k : ℕ) → k < max newest (number_at g j) → get_or g.ks k 0 ≡ glyph_kind → get_or s'' (g.firsts + k) 0 ≡ run_of g.w (smoothed_page g) (first_dot (labelling g.w g.h g.m).labels (suc k)))
            → RowWalk g s'' y (suc j) r' (max newest (number_at g j)) (end_at g j)
        marked s'' K runs first =
            let P = pass-glyph g W.passed l ly here glyph in
            let low = (W.passed.next j (le_refl j) l).0 in
            let up = some-dot in
            record {
              kept = K;
              end = end_at g j;
              passed = P;
              none = λ z. absurd (omega arith);
              some = λ z. (refl, omega arith);
              runs = runs;
              fits = A.fits;
              met = let m = met-with.0 in let n = W.met in omega arith;
              glyphs_met = λ k a e. glyphs_met k a e (dec_lt k (met_before g.w g.h g.m j));
              first = first;
            }
          where
            glyphs_met : (k : ℕ) → k < met_before g.w g.h g.m (suc j) → get_or g.ks k 0 ≡ glyph_kind → Dec (k < met_before g.w g.h g.m j) → k < max newest (number_at g j)
            glyphs_met k a e (yes h) = let b = W.glyphs_met k h e in omega arith
            glyphs_met k a e (no h) = let m = met-with.0 in omega arith

            some-dot : start_at g j < end_at g j
            some-dot = run-some g j l

        -- a glyph with a number above the newest is not met before
        unmet : (k : ℕ) → get_or g.ks k 0 ≡ glyph_kind → (k < newest → ⊥) → met_before g.w g.h g.m j ≤ k
        unmet k q h = go (dec_lt k (met_before g.w g.h g.m j))
          where
            go : Dec (k < met_before g.w g.h g.m j) → met_before g.w g.h g.m j ≤ k
            go (yes d) = absurd (h (W.glyphs_met k d q))
            go (no d) = omega arith

        pub step-mark : (t : Bool) → t ≡ ltb newest (number_at g j) → RowWalk g (cond t (set s' (g.firsts + number_at g j - 1) (r' - 1)) s') y (suc j) r' (max newest (number_at g j)) (end_at g j)
        step-mark false e =
            let h = ltb-false newest (number_at g j) (sym e) in
            marked s' A.kept A.runs (λ k a q. first-old k (omega arith) q)
        step-mark true e =
            let h = ltb-true newest (number_at g j) (sym e) in
            let z = (number-range g j l).0 in
            let z₁ = (number-range g j l).1 in
            let at : g.firsts + number_at g j - 1 ≡ g.firsts + (number_at g j - 1) = omega arith in
            let d = g.asks.between in
            let b = held in
            subst (λ i. RowWalk g (set s' i (r' - 1)) y (suc j) r' (max newest (number_at g j)) (end_at g j)) (sym at)
            (marked (set s' (g.firsts + (number_at g j - 1)) (r' - 1))
            (kept-first g s' A.kept (number_at g j - 1) (r' - 1) (omega arith))
            (words-front s' (3 * g.c) (2 * r') (g.firsts + (number_at g j - 1)) (r' - 1) (omega arith) ∙ A.runs)
            (λ k a q. first k a q (dec_lt k newest)))
          where
            first : (k : ℕ) → k < max newest (number_at g j) → get_or g.ks k 0 ≡ glyph_kind → Dec (k < newest) → get_or (set s' (g.firsts + (number_at g j - 1)) (r' - 1)) (g.firsts + k) 0 ≡ run_of g.w (smoothed_page g) (first_dot (labelling g.w g.h g.m).labels (suc k))
            first k a q (yes h) =
                let n = ltb-true newest (number_at g j) (sym e) in
                get_or-set_other s' (g.firsts + (number_at g j - 1)) (g.firsts + k) (r' - 1) 0 (λ z. absurd (omega arith)) ∙ first-old k h q
            first k a q (no h) =
                let n = ltb-true newest (number_at g j) (sym e) in
                let b : met_before g.w g.h g.m j ≤ k = unmet k q h in
                let m₁ = met-with.0 in
                let m₂ = met-with.1 in
                let same : number_at g j - 1 ≡ k = omega arith in
                let next : number_at g j ≡ suc k = omega arith in
                let room = mark-room.0 in
                ap (λ i. get_or (set s' (g.firsts + i) (r' - 1)) (g.firsts + k) 0) same
                ∙ (get_or-set_same s' (g.firsts + k) (r' - 1) 0 (omega arith)
                ∙ (run_is ∙ ap (run_of g.w (smoothed_page g)) (sym (first-met g.w g.h g.m g.asks.wide j (in_all l) (omega arith)) ∙ ap (first_dot (labelling g.w g.h g.m).labels) next)))

  -- The walk's ends

  pub walk_none : RowWalk g g.words 0 0 0 0 0
  unfolding ended_turns ink_before append_if turns count_if
  walk_none =
      record {
        kept = record { len = refl; low = λ i l. refl; between = λ i a b. refl; beyond = λ i a. refl };
        end = 0;
        passed = pass-none g;
        none = λ e. omega arith;
        some = λ l. absurd (not-suc-le-zero l);
        runs = refl;
        fits = le_refl 0;
        met = le_refl 0;
        glyphs_met = λ k l. absurd (not-suc-le-zero l);
        first = λ k l. absurd (not-suc-le-zero l);
      }

  -- the next row
  pub walk-row : {s : List ℕ} {y j r newest last : ℕ} → RowWalk g s y j r newest last → y < g.h → (j < g.c → y * g.w + g.w ≤ start_at g j) → RowWalk g s (y + 1) j r newest 0
  walk-row {s} {y} {j} {r} {newest} {last} W ly past =
      let e : (y + 1) * g.w ≡ y * g.w + g.w = ap (λ z. z * g.w) (add-one y) ∙ suc-mul y g.w in
      let i = W.passed.inside.0 in
      record {
        kept = W.kept;
        end = W.end;
        passed = pass-row g W.passed ly past;
        none = λ z. omega arith;
        some = λ l. absurd (not-suc-le-zero l);
        runs = W.runs;
        fits = W.fits;
        met = W.met;
        glyphs_met = W.glyphs_met;
        first = W.first;
      }

  -- all rows are walked
  pub walk-done : {s : List ℕ} {y j r newest last : ℕ} → RowWalk g s y j r newest last → g.h ≤ y → SmoothLeft g.w g.h g.m g.ks g.plane g.words s g.c g.kinds g.firsts g.gap r
  walk-done {s} {y} {j} {r} {newest} {last} W ly =
      let q : j ≡ g.c = pass_all g W.passed ly in
      let n = g.asks.numbered.held.count in
      let P : Passed g y g.c W.end = subst (λ z. Passed g y z W.end) q W.passed in
      let t = pass-turns g P in
      let f : r ≤ glyph_runs g.w g.h g.m g.ks = subst (λ z. r ≤ count_if (glyph_run g.w g.h g.m g.ks) z) (q ∙ n) W.fits in
      let b = g.asks.before in
      let d = g.asks.between in
      let o = g.asks.room in
      let k = W.kept.len in
      let e = count_is s r W.end (omega arith) W.runs in
      let u = turns-even g.w g.h (smoothed_page g) g.asks.wide in
      let v = ap length t in
      let x = ended-length g.w (smoothed_page g) g.asks.wide W.end in
      let all : met_before g.w g.h g.m j ≡ length g.ks = ap (met_before g.w g.h g.m) (q ∙ n) ∙ (met_all g.w g.h g.m g.asks.wide ∙ sym g.asks.size) in
      record {
        len = k;
        front =
            ext_get_or 0 (take (3 * g.c) s) (take (3 * g.c) g.words) (length-take-le (3 * g.c) s (omega arith) ∙ sym (length-take-le (3 * g.c) g.words (omega arith)))
            (λ i a. let z = length-take-le (3 * g.c) s (omega arith) in let l : i < 3 * g.c = omega arith in get_or-take (3 * g.c) s i 0 l ∙ (W.kept.low i l ∙ sym (get_or-take (3 * g.c) g.words i 0 l)));
        held = record { count = omega arith; runs = W.runs ∙ sym t };
        fits = f;
        first = λ k l e. W.first k (W.glyphs_met k (omega arith) e) e;
        between = W.kept.between;
        beyond = W.kept.beyond;
      }

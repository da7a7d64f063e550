-- The walk as the code has it: the parts that a row is lent as, and the walk with its next run.
use Rattle.std.specs.Prelude.{◌≢◌}
use mathlib.Core.Path.{◌≡◌, refl, sym, ap, ◌∙◌, subst}
use mathlib.Core.List.{List}
use mathlib.Core.Bool.{Bool, true, false, cond, ◌&&◌}
use Prim.Native.Nat.{ℕ, suc, ◌+◌, ◌-◌, ◌*◌, ◌≤◌, ◌<◌, max}
use native.Mathlib.Numerals.{add-one}
use native.Mathlib.Omega.{arith}
use borrow.Author.Tests.{eq-eqb, ne_eqb}
use lib.ListN.{get_or, length, take, drop, set, length-drop}
use lib.Seq.{get_or-take, get_or-drop, length-take-le}
use lib.Dec.{ltb, leb}
use Rattle.sorting.specs.rules.Kinds.{glyph_kind}
use Rattle.smoothing.specs.stages.RowRuns.{SmoothRoom, SmoothingInput, start_at, end_at, number_at, glyph_of, RowWalk, PageWalk, row_start, RowEnd, RowOf, kind_of, RowParts, RunOfGlyph, GlyphAt, RunAdded}
use Rattle.smoothing.specs.declared.smooth.Places.{Places}
use Rattle.smoothing.specs.declared.smooth.Walk.{Walk}
use Rattle.smoothing.specs.declared.smooth.GlyphRun.{GlyphRun}
use Rattle.smoothing.proofs.RowWordLaws.{read-start, read-end, read_number, read-kind, number-range, glyph-kind}
use Rattle.smoothing.proofs.RowRunLaws.{dots-few, runs-few}
use Rattle.smoothing.proofs.RowStepLaws.{Added, step_other, add-room, some-run, step_run, mark-room, step-mark, walk_none, walk-row}

-- a part of the words, from a to e
abbrev pub part_of : List ℕ → ℕ → ℕ → List ℕ
part_of s a e = take (e - a) (drop a s)

part-word : (s : List ℕ) (a e i k : ℕ) → a + i < e → a + i ≡ k → get_or (part_of s a e) i 0 ≡ get_or s k 0
part-word s a e i k l q = get_or-take (e - a) (drop a s) i 0 (omega arith) ∙ (get_or-drop a s i 0 ∙ ap (λ z. get_or s z 0) q)

part_length : (s : List ℕ) (a e : ℕ) → e ≤ length s → length (part_of s a e) ≡ e - a
part_length s a e l = length-take-le (e - a) (drop a s) (let q = length-drop a s in omega arith)

-- Rows as parts

module _ {g : SmoothingInput} {s : List ℕ} {places : Places} {gap y : ℕ} {walk : Walk} (W : PageWalk g s places gap y walk) where
  -- where things stand
  pub page-room : (2 * g.c ≤ places.numbers) × (places.numbers + g.c ≤ places.kinds) × (places.kinds + length g.ks ≤ places.firsts) × (places.firsts + length g.ks ≤ length s)
  page-room =
      let a = W.numbers_is in
      let b = W.kinds_is in
      let d = W.firsts_is in
      let e = g.asks.before in
      let f = g.asks.between in
      let h = g.asks.room in
      let l = W.walked.kept.len in
      (omega arith, omega arith, omega arith, omega arith)

  module _ {first end : ℕ} (R : RowOf g y first end) where
    -- the three parts lie in the words
    row_room : (2 * end ≤ length s) × (places.numbers + end ≤ length s) × (places.firsts ≤ length s)
    row_room =
        let a = page-room.0 in
        let b = page-room.1 in
        let d = page-room.2 in
        let e = page-room.3 in
        let h = R.high in
        (omega arith, omega arith, omega arith)

    module _ (j : ℕ) (l : first + j < end) where
      within : first + j < g.c
      within = let h = R.high in omega arith

      start-read : get_or (part_of s (2 * first) (2 * end)) (2 * j) 0 ≡ start_at g (first + j)
      start-read = part-word s (2 * first) (2 * end) (2 * j) (2 * (first + j)) (omega arith) (omega arith) ∙ read-start g s W.walked.kept (first + j) within

      end_read : get_or (part_of s (2 * first) (2 * end)) (2 * j + 1) 0 ≡ end_at g (first + j)
      end_read = part-word s (2 * first) (2 * end) (2 * j + 1) (2 * (first + j) + 1) (omega arith) (omega arith) ∙ read-end g s W.walked.kept (first + j) within

      number_read : get_or (part_of s (places.numbers + first) (places.numbers + end)) j 0 ≡ number_at g (first + j)
      number_read =
          part-word s (places.numbers + first) (places.numbers + end) j (2 * g.c + (first + j)) (omega arith) (let a = W.numbers_is in omega arith) ∙ read_number g s W.walked.kept (first + j) within

      kind-read : kind_of (part_of s (places.numbers + first) (places.numbers + end)) (part_of s places.kinds places.firsts) j ≡ get_or g.ks (number_at g (first + j) - 1) 0
      kind-read =
          let r = (number-range g (first + j) within).0 in
          let r₁ = (number-range g (first + j) within).1 in
          let a = page-room.2 in
          ap (λ z. get_or (part_of s places.kinds places.firsts) (z - 1) 0) number_read
          ∙ (part-word s places.kinds places.firsts (number_at g (first + j) - 1) (g.kinds + (number_at g (first + j) - 1)) (omega arith) (let b = W.kinds_is in omega arith)
          ∙ read-kind g s W.walked.kept (number_at g (first + j) - 1) (omega arith))

      -- the kind that is read tells whether the run is one of a glyph
      glyph-read : kind_of (part_of s (places.numbers + first) (places.numbers + end)) (part_of s places.kinds places.firsts) j ≡ glyph_kind → glyph_of g (start_at g (first + j)) ≡ true
      glyph-read k = glyph-kind g (first + j) within ∙ eq-eqb (get_or g.ks (number_at g (first + j) - 1) 0) glyph_kind (sym kind-read ∙ k)

      other-read : (kind_of (part_of s (places.numbers + first) (places.numbers + end)) (part_of s places.kinds places.firsts) j ≡ glyph_kind → ⊥) → glyph_of g (start_at g (first + j)) ≡ false
      other-read k = glyph-kind g (first + j) within ∙ ne_eqb (get_or g.ks (number_at g (first + j) - 1) 0) glyph_kind (λ z. k (kind-read ∙ z))

    numbers-length : length (part_of s (places.numbers + first) (places.numbers + end)) ≡ end - first
    numbers-length = let a = row_room.1 in let l = part_length s (places.numbers + first) (places.numbers + end) a in omega arith

    pub row-parts : RowParts (part_of s (2 * first) (2 * end)) (part_of s (places.numbers + first) (places.numbers + end)) (part_of s places.kinds places.firsts)
    row-parts =
        record {
          runs = let a = row_room.0 in let e = part_length s (2 * first) (2 * end) a in let n = numbers-length in let l = R.low in omega arith;
          known = λ j l.
              let n = numbers-length in
              let i : first + j < end = omega arith in
              let r = number-range g (first + j) (within j i) in
              let r₀ = r.0 in
              let r₁ = r.1 in
              let q = number_read j i in
              let k = part_length s places.kinds places.firsts row_room.2 in
              let a = page-room.2 in
              (omega arith, omega arith);
        }

    module _ (low : first ≤ walk.passed) (high : walk.passed < end) where
      pub run_room : walk.passed - first < length (part_of s (places.numbers + first) (places.numbers + end))
      run_room = let n = numbers-length in omega arith

      at : first + (walk.passed - first) ≡ walk.passed
      at = omega arith

      inside : first + (walk.passed - first) < end
      inside = omega arith

      -- a run of no glyph
      pub other-pass : kind_of (part_of s (places.numbers + first) (places.numbers + end)) (part_of s places.kinds places.firsts) (walk.passed - first) ≢ glyph_kind
          → PageWalk g s places gap y (record { passed = walk.passed + 1; smoothed = walk.smoothed; newest = walk.newest; last = walk.last })
      other-pass e =
          let h = R.high in
          record {
            gap_is = W.gap_is;
            numbers_is = W.numbers_is;
            smoothed_is = W.smoothed_is;
            kinds_is = W.kinds_is;
            firsts_is = W.firsts_is;
            walked =
                subst (λ k. RowWalk g s y k walk.smoothed walk.newest walk.last) (sym (add-one walk.passed))
                (step_other g W.walked (omega arith) (subst (λ j. glyph_of g (start_at g j) ≡ false) at (other-read (walk.passed - first) inside e)));
          }

      module _ {run : GlyphRun} (G : RunOfGlyph (part_of s (2 * first) (2 * end)) (part_of s (places.numbers + first) (places.numbers + end)) (part_of s places.kinds places.firsts) (walk.passed - first) run) where
        pub glyph-at : 0 < run.number → GlyphAt g y walk.passed run
        glyph-at some =
            subst (λ j. GlyphAt g y j run) at
            (record {
              row = R.row;
              within = within (walk.passed - first) inside;
              here = R.inside (first + (walk.passed - first)) (omega arith) inside;
              glyph = glyph-read (walk.passed - first) inside (G.glyph some);
              number = G.number some ∙ number_read (walk.passed - first) inside;
              start = G.start some ∙ start-read (walk.passed - first) inside;
              end = G.end some ∙ end_read (walk.passed - first) inside;
            })

-- The walk with a glyph run

module _ {g : SmoothingInput} {s : List ℕ} {places : Places} {gap y : ℕ} {walk : Walk} {run : GlyphRun} (W : PageWalk g s places gap y walk) (A : GlyphAt g y walk.passed run) where
  -- the test that joins, by what is read
  joins-is : (t : Bool) → t ≡ (ltb 0 walk.last && leb (run.start - walk.last) gap) → t ≡ (ltb 0 walk.last && leb (start_at g walk.passed - walk.last) g.gap)
  joins-is t e = e ∙ (λ i. ltb 0 walk.last && leb (A.start i - walk.last) (W.gap_is i))

  pub add-fits : places.smoothed + 2 * walk.smoothed + 2 ≤ length s
  add-fits = let a = add-room g W.walked A.within A.row A.here A.glyph in let b = W.smoothed_is in let d = W.kinds_is in let e = (page-room W).2 in let f = (page-room W).3 in omega arith

  pub joined-some : (t : Bool) → t ≡ (ltb 0 walk.last && leb (run.start - walk.last) gap) → t ≡ true → 0 < walk.smoothed
  joined-some t e q = some-run g W.walked A.within A.row A.here A.glyph (sym (joins-is t e) ∙ q)

  module _ {s₁ : List ℕ} {r : ℕ} {joins : Bool} (ej : joins ≡ (ltb 0 walk.last && leb (run.start - walk.last) gap)) (D : RunAdded s s₁ places.smoothed walk.smoothed run.start run.end joins r) where
    added-words : (t : Bool) → cond t (set s (places.smoothed + 2 * walk.smoothed - 1) run.end) (set (set s (places.smoothed + 2 * walk.smoothed) run.start) (places.smoothed + 2 * walk.smoothed + 1) run.end)
        ≡ cond t (set s (3 * g.c + 2 * walk.smoothed - 1) (end_at g walk.passed)) (set (set s (3 * g.c + 2 * walk.smoothed) (start_at g walk.passed)) (3 * g.c + 2 * walk.smoothed + 1) (end_at g walk.passed))
    added-words t = λ i. cond t (set s (W.smoothed_is i + 2 * walk.smoothed - 1) (A.end i)) (set (set s (W.smoothed_is i + 2 * walk.smoothed) (A.start i)) (W.smoothed_is i + 2 * walk.smoothed + 1) (A.end i))

    added : Added g s s₁ walk.passed r
    added =
        subst (λ z. Added g s s₁ walk.passed z) (sym D.count)
        (subst (λ z. Added g s z walk.passed (cond joins walk.smoothed (walk.smoothed + 1))) (sym (D.words ∙ added-words joins)) (step_run g W.walked A.within A.row A.here A.glyph joins (joins-is joins ej)))

    pub mark-fits : (places.firsts + run.number ≤ length s₁) × (0 < r) × (r < 4294967296)
    mark-fits =
        let a = mark-room g W.walked A.within A.row A.here A.glyph added in
        let a₀ = a.0 in
        let b = W.firsts_is in
        let e = A.number in
        (omega arith, a.1, a.2)

    pub glyph-pass : {s₂ : List ℕ} (n last : ℕ) → last ≡ run.end → n ≡ max walk.newest run.number → s₂ ≡ cond (ltb walk.newest run.number) (set s₁ (places.firsts + run.number - 1) (r - 1)) s₁
        → PageWalk g s₂ places gap y (record { passed = walk.passed + 1; smoothed = r; newest = n; last = last })
    glyph-pass {s₂} n last el en es =
        let N = number_at g walk.passed in
        let S : RowWalk g (cond (ltb walk.newest N) (set s₁ (g.firsts + N - 1) (r - 1)) s₁) y (suc walk.passed) r (max walk.newest N) (end_at g walk.passed) =
        step-mark g W.walked A.within A.row A.here A.glyph added (ltb walk.newest N) refl in
        let words : s₂ ≡ cond (ltb walk.newest N) (set s₁ (g.firsts + N - 1) (r - 1)) s₁ = es ∙ (λ i. cond (ltb walk.newest (A.number i)) (set s₁ (W.firsts_is i + A.number i - 1) (r - 1)) s₁) in
        record {
          gap_is = W.gap_is;
          numbers_is = W.numbers_is;
          smoothed_is = W.smoothed_is;
          kinds_is = W.kinds_is;
          firsts_is = W.firsts_is;
          walked =
              subst (λ z. RowWalk g z y (walk.passed + 1) r n last) (sym words)
              (subst (λ z. RowWalk g (cond (ltb walk.newest N) (set s₁ (g.firsts + N - 1) (r - 1)) s₁) y z r n last) (sym (add-one walk.passed))
              (subst (λ z. RowWalk g (cond (ltb walk.newest N) (set s₁ (g.firsts + N - 1) (r - 1)) s₁) y (suc walk.passed) r z last) (sym (en ∙ ap (max walk.newest) A.number))
              (subst (λ z. RowWalk g (cond (ltb walk.newest N) (set s₁ (g.firsts + N - 1) (r - 1)) s₁) y (suc walk.passed) r (max walk.newest N) z) (sym (el ∙ A.end)) S)));
        }

-- From row to row

-- a page by the demand of smoothing
abbrev pub page_of : (w h : ℕ) (m ks plane s : List ℕ) (c kinds firsts gap : ℕ) → SmoothRoom w h m ks plane s c kinds firsts → SmoothingInput
page_of w h m ks plane s c kinds firsts gap a = record { w = w; h = h; m = m; ks = ks; plane = plane; words = s; c = c; kinds = kinds; firsts = firsts; gap = gap; asks = a }

-- where things stand behind the runs of a page
abbrev pub places_of : ℕ → ℕ → ℕ → Places
places_of c kinds firsts = record { numbers = 2 * c; smoothed = 3 * c; kinds = kinds; firsts = firsts }

-- its runs are few
pub page-few : (g : SmoothingInput) → g.c ≤ 402595842
page-few g = let a = runs-few g in let b = dots-few g in omega arith

pub page-start : (g : SmoothingInput) → PageWalk g g.words (places_of g.c g.kinds g.firsts) g.gap 0 (record { passed = 0; smoothed = 0; newest = 0; last = 0 })
page-start g = record { gap_is = refl; numbers_is = refl; smoothed_is = refl; kinds_is = refl; firsts_is = refl; walked = walk_none g }

module _ {g : SmoothingInput} {s : List ℕ} {places : Places} {gap y limit end : ℕ} (walk : Walk) (W : PageWalk g s places gap y (row_start walk)) (ly : y < g.h) (el : limit ≡ y * g.w + g.w) (E : RowEnd s walk.passed g.c limit end) where
  pub row_of : RowOf g y walk.passed end
  row_of =
      record {
        row = ly;
        low = E.low;
        high = E.high;
        inside = λ j a b. let h = E.high in let q = read-start g s W.walked.kept j (omega arith) in let k = E.inside j a b in omega arith;
      }

  -- the walk in the next row
  pub row_on : {s' : List ℕ} {walk' : Walk} → walk'.passed ≡ end → PageWalk g s' places gap y walk' → PageWalk g s' places gap (y + 1) (row_start walk')
  row_on {s'} {walk'} e U =
      record {
        gap_is = U.gap_is;
        numbers_is = U.numbers_is;
        smoothed_is = U.smoothed_is;
        kinds_is = U.kinds_is;
        firsts_is = U.firsts_is;
        walked = walk-row g U.walked ly (λ l. subst (λ j. y * g.w + g.w ≤ start_at g j) (sym e) (let u : end < g.c = omega arith in let q = read-start g s W.walked.kept end u in let k = E.past u in omega arith));
      }

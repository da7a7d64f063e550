-- The figures and the lists of a store that may be read: what is copied is what the reading tells.
use mathlib.Core.Path.{◌≡◌, refl, sym, ap, ◌∙◌, subst}
use mathlib.Core.Bool.{true, false, ◌&&◌}
use mathlib.Core.List.{List, [], ◌∷◌, ◌++◌}
use Prim.Native.Nat.{ℕ, suc, ◌+◌, ◌-◌, ◌*◌, ◌≤◌, ◌<◌}
use native.Mathlib.Omega.{arith}
use borrow.Author.Tests.{lt-ltb, le-ltb, eq-eqb, ne_eqb, ltb-false}
use lib.Dec.{ltb}
use lib.ListN.{length, get_or, take, drop, set}
use Rattle.memory.specs.rules.Limits.{max_page_side, max_frame_width, max_frame_height, max_capacity}
use Rattle.memory.specs.rules.Refusals.{refuse_if}
use Rattle.memory.specs.rules.Words.{over}
use Rattle.memory.proofs.BoolLaws.{and_left, and_right}
use Rattle.levelling.specs.rules.Frames.{frame}
use Rattle.levelling.proofs.FrameLaws.{frame-fits}
use Rattle.segmenting.specs.rules.Figures.{figures_length}
use Rattle.judging.specs.rules.Header.{Held, held, frame_held, store_held, dots_held, lists_at, part, figures_at}
use Rattle.judging.specs.rules.Views.{view_of, view_with}
use Rattle.judging.specs.rules.Spoiled.{kinds_ok, unit_ok, counts_ok, ink_held, results_spoiled}
use Rattle.judging.specs.rules.Refusals.{result_refusal}
use Rattle.store.specs.rules.Readings.{ResultReading, Which, figures_told, list_words, list_count}
use Rattle.store.specs.rules.Readings.Output.{words}
use Rattle.store.specs.rules.Readings.Which.{columns, rules, graphics, glyphs, lines, blocks}
use Rattle.store.specs.rules.Outcomes.{told, result_told}
use Rattle.judging.specs.stages.Judged.{words_ok}
use Rattle.segmenting.specs.stages.Places.{result_places}
use Rattle.segmenting.specs.declared.places.ResultPlaces.{ResultPlaces}
use Rattle.store.specs.declared.lists.RecordList.{RecordList}
use Rattle.store.specs.stages.Areas.{place_in, area_at, record_words, count_at, list_start, list_size, list_read, ListsAt}
use Rattle.judging.proofs.PartLaws.{length_part}
use Rattle.judging.proofs.LimitLaws.{limited}
use Rattle.judging.proofs.ResultLaws.{figure-word, few}
use Rattle.judging.proofs.SpoiledLaws.{ReadableResults, results-split}
use Rattle.store.proofs.ToldLaws.{told-refused, told-late, told-done, told-good}
use Rattle.store.proofs.HeldFrames.{frame-words}

-- ---- the figures

front-one : (c out : List ℕ) → 1 ≤ length c → (get_or c 0 0 ≡ 0 → ⊥) → set (over c out) 0 1 ≡ over (figures_told c) out
front-one [] out h z = absurd (omega arith)
front-one (x ∷ c) out h z = rw (ne_eqb x 0 z)

front-zero : (c out : List ℕ) → 1 ≤ length c → get_or c 0 0 ≡ 0 → over c out ≡ over (figures_told c) out
front-zero [] out h z = absurd (omega arith)
front-zero (x ∷ c) out h z = rw (eq-eqb x 0 z) (ap (λ y. y ∷ (c ++ drop (suc (length c)) out)) z)

module _ (s out out' : List ℕ) (h : 64 ≤ length s) (e : out' ≡ over (part 10 15 s) out) where
  some : 1 ≤ length (part 10 15 s)
  some = let l = length_part 10 15 s (omega arith) in omega arith

  pub put_one : (get_or s 10 0 ≡ 0 → ⊥) → set out' 0 1 ≡ over (figures_told (part 10 15 s)) out
  put_one z = ap (λ l. set l 0 1) e ∙ front-one (part 10 15 s) out some (λ q. z (sym (figure-word s 0 (omega arith)) ∙ q))

  pub put-zero : get_or s 10 0 ≡ 0 → out' ≡ over (figures_told (part 10 15 s)) out
  put-zero z = e ∙ front-zero (part 10 15 s) out some (figure-word s 0 (omega arith) ∙ z)

module _ (s ink kinds out : List ℕ) (n : ℕ) (en : n ≡ result_refusal (length s) (length ink) (length kinds) (held s) (ltb (length out) 15) (results_spoiled s ink kinds) false false) where
  pub figures-refused : (n ≡ 0 → ⊥) → told n 0 (words out) ≡ result_told (ResultReading.figures out) s ink kinds
  figures-refused z = told-refused (ResultReading.figures out) s ink kinds n en z

  pub figures-room : n ≡ 0 → (64 ≤ length s) × (15 ≤ length out)
  figures-room z = let g = told-good (ResultReading.figures out) s ink kinds n en z in (g.0.words, ltb-false (length out) 15 g.1)

  pub figures-done : n ≡ 0 → (out' : List ℕ) → out' ≡ over (figures_told (part figures_at figures_length s)) out → told 0 0 (words out') ≡ result_told (ResultReading.figures out) s ink kinds
  unfolding view_of view_with refuse_if
  figures-done z out' e = ap (λ (l : List ℕ). told 0 0 (words l)) e ∙ told-done (ResultReading.figures out) s ink kinds n en z refl

-- ---- the place of a list by its number

-- behind the shears, by the words that tell the sides
pub list-start : (s : List ℕ) (k : Which) (at w P : ℕ) (q : ResultPlaces) → at ≡ lists_at (get_or s 1 0) (get_or s 4 0) → w ≡ get_or s 3 0 → P ≡ get_or s 5 0 → q ≡ result_places w P → at + place_in k q ≡ list_start k s
list-start s k at w P q ea ew ep eq = λ i. ea i + place_in k ((eq ∙ (λ j. result_places (ew j) (ep j))) i)

-- ---- a store that may be read

module _ (s ink kinds : List ℕ) (R : ReadableResults s ink kinds) where
  abbrev g : Held
  g = held s

  -- the words 1, 3, 4 and 5
  pub sides-are : (get_or s 1 0 ≡ (frame_held (held s)).page_w) × (get_or s 3 0 ≡ (frame_held (held s)).w) × (get_or s 4 0 ≡ (frame_held (held s)).h) × (get_or s 5 0 ≡ (held s).capacity) × (get_or s 1 0 ≡ (held s).page_w) × (get_or s 2 0 ≡ (held s).page_h)
  unfolding held frame
  sides-are = let f = frame-words s R.limits R.sound in (refl, f.0, f.1, refl, refl, refl)

  pub sides-low : (get_or s 1 0 ≤ max_page_side) × (get_or s 3 0 ≤ max_frame_width) × (get_or s 4 0 ≤ max_frame_height) × (get_or s 5 0 ≤ max_capacity)
  sides-low =
      let L = limited (held s) R.limits in
      let F = frame-fits (held s).page_w (held s).page_h (held s).slope L.sides L.within in
      let a = sides-are in
      let w = L.sides.w_fits in
      let p = L.few in
      (omega (arith, a.4, w), omega (arith, a.1, F.0), omega (arith, a.2, F.1), omega (arith, a.3, p))

  pub words-ok : words_ok (frame_held (held s)).w (frame_held (held s)).h (held s).capacity (part figures_at figures_length s) (lists_at (held s).page_w (frame_held (held s)).h) s ≡ true
  words-ok =
      and_left (words_ok (frame_held (held s)).w (frame_held (held s)).h (held s).capacity (part figures_at figures_length s) (lists_at (held s).page_w (frame_held (held s)).h) s)
      (kinds_ok (ink_held (held s) ink) (take (dots_held (held s)) kinds) (dots_held (held s))) (sym (results-split s (ink_held (held s) ink) kinds) ∙ R.results)

  pub counts-low : (get_or s 13 0 ≤ 3 * (held s).capacity) × (get_or s 14 0 ≤ (held s).capacity) × (get_or s 15 0 ≤ (held s).capacity) × (get_or s 16 0 ≤ (held s).capacity) × (get_or s 17 0 ≤ (held s).capacity) × (get_or s 18 0 ≤ (frame_held (held s)).w)
  unfolding words_ok
  counts-low =
      let u = unit_ok (part figures_at figures_length s) in
      let c = counts_ok (frame_held (held s)).w (held s).capacity (part figures_at figures_length s) in
      let b = and_right u c (and_left (u && c) _ words-ok) in
      let f = few _ _ _ _ _ _ (frame_held (held s)).w (held s).capacity b in
      let word : (j : ℕ) → j < 15 → get_or (part 10 15 s) j 0 ≡ get_or s (10 + j) 0 = figure-word s in
      let r = word 3 (omega arith) in
      let p = word 4 (omega arith) in
      let y = word 5 (omega arith) in
      let l = word 6 (omega arith) in
      let k = word 7 (omega arith) in
      let m = word 8 (omega arith) in
      (omega (arith, f.0, r), omega (arith, f.1, p), omega (arith, f.2, y), omega (arith, f.3, l), omega (arith, f.4, k), omega (arith, f.5, m))

  pub there : (k : Which) → lists_at (get_or s 1 0) (get_or s 4 0) + area_at k (get_or s 3 0) (get_or s 5 0) + get_or s (count_at k) 0 * record_words k ≤ length s
  there k =
      let a = sides-are in
      let c = counts-low in
      go k R.room a.1 a.2 a.3 a.4 c.0 c.1 c.2 c.3 c.4 c.5
    where
      go : (k : Which) → store_held (held s) ≤ length s → get_or s 3 0 ≡ (frame_held (held s)).w → get_or s 4 0 ≡ (frame_held (held s)).h → get_or s 5 0 ≡ (held s).capacity → get_or s 1 0 ≡ (held s).page_w
          → get_or s 13 0 ≤ 3 * (held s).capacity → get_or s 14 0 ≤ (held s).capacity → get_or s 15 0 ≤ (held s).capacity → get_or s 16 0 ≤ (held s).capacity → get_or s 17 0 ≤ (held s).capacity → get_or s 18 0 ≤ (frame_held (held s)).w
          → lists_at (get_or s 1 0) (get_or s 4 0) + area_at k (get_or s 3 0) (get_or s 5 0) + get_or s (count_at k) 0 * record_words k ≤ length s
      go columns m a b c d f₁ f₂ f₃ f₄ f₅ f₆ = omega arith
      go rules m a b c d f₁ f₂ f₃ f₄ f₅ f₆ = omega arith
      go graphics m a b c d f₁ f₂ f₃ f₄ f₅ f₆ = omega arith
      go glyphs m a b c d f₁ f₂ f₃ f₄ f₅ f₆ = omega arith
      go lines m a b c d f₁ f₂ f₃ f₄ f₅ f₆ = omega arith
      go blocks m a b c d f₁ f₂ f₃ f₄ f₅ f₆ = omega arith

  pub size-read : (k : Which) → list_size k s ≡ list_count k (view_of s kinds)
  unfolding view_of view_with
  size-read columns = sym (figure-word s 8 (omega arith))
  size-read rules = sym (figure-word s 3 (omega arith))
  size-read graphics = sym (figure-word s 4 (omega arith))
  size-read glyphs = sym (figure-word s 5 (omega arith))
  size-read lines = sym (figure-word s 6 (omega arith))
  size-read blocks = sym (figure-word s 7 (omega arith))

  words-there : (k : Which) → part (lists_at (frame_held (held s)).page_w (frame_held (held s)).h + area_at k (frame_held (held s)).w (held s).capacity) (list_count k (view_of s kinds) * record_words k) s ≡ list_words k (view_of s kinds)
  unfolding view_of view_with
  words-there columns = ap (λ z. part z (list_count columns (view_of s kinds) * record_words columns) s) (let q : lists_at (frame_held (held s)).page_w (frame_held (held s)).h + 0 ≡ lists_at (frame_held (held s)).page_w (frame_held (held s)).h = omega arith in q)
  words-there rules = refl
  words-there graphics = refl
  words-there glyphs = refl
  words-there lines = refl
  words-there blocks = refl

  pub list_read_lem : (k : Which) → list_read k s ≡ list_words k (view_of s kinds)
  list_read_lem k =
      let a = sides-are in
      (λ i. part (lists_at (a.0 i) (a.2 i) + area_at k (a.1 i) (a.3 i)) (size-read k i * record_words k) s) ∙ words-there k

  few-records : (k : Which) → list_size k s ≤ 3 * max_capacity
  few-records k =
      let a = sides-are in
      let l = sides-low in
      let c = counts-low in
      go k a.3 a.1 l.1 l.3 c.0 c.1 c.2 c.3 c.4 c.5
    where
      go : (k : Which) → get_or s 5 0 ≡ (held s).capacity → get_or s 3 0 ≡ (frame_held (held s)).w → get_or s 3 0 ≤ max_frame_width → get_or s 5 0 ≤ max_capacity
          → get_or s 13 0 ≤ 3 * (held s).capacity → get_or s 14 0 ≤ (held s).capacity → get_or s 15 0 ≤ (held s).capacity → get_or s 16 0 ≤ (held s).capacity → get_or s 17 0 ≤ (held s).capacity → get_or s 18 0 ≤ (frame_held (held s)).w
          → list_size k s ≤ 3 * max_capacity
      go columns a b l m f₁ f₂ f₃ f₄ f₅ f₆ = omega arith
      go rules a b l m f₁ f₂ f₃ f₄ f₅ f₆ = omega arith
      go graphics a b l m f₁ f₂ f₃ f₄ f₅ f₆ = omega arith
      go glyphs a b l m f₁ f₂ f₃ f₄ f₅ f₆ = omega arith
      go lines a b l m f₁ f₂ f₃ f₄ f₅ f₆ = omega arith
      go blocks a b l m f₁ f₂ f₃ f₄ f₅ f₆ = omega arith

  pub lists_at_lem : ListsAt s
  lists_at_lem = record { words = R.words; low = sides-low; room = there; few = few-records }

  module _ (k : Which) (out : List ℕ) (n : ℕ) (en : n ≡ result_refusal (length s) (length ink) (length kinds) (held s) false (results_spoiled s ink kinds) false false) (gn : n ≡ 0) where
    long : length (list_read k s) ≡ length (list_words k (view_of s kinds))
    long = ap length (list_read_lem k)

    pub list-short : length out < length (list_read k s) → told 9 0 (words out) ≡ result_told (ResultReading.list k out) s ink kinds
    unfolding refuse_if
    list-short h =
        told-late (ResultReading.list k out) s ink kinds n en gn 9
        (sym (rw (lt-ltb (length out) (length (list_words k (view_of s kinds))) (let l = long in omega arith)))) (λ z. omega arith)

    pub list_done : length (list_read k s) ≤ length out → (count : ℕ) (out' : List ℕ) → count ≡ list_size k s → out' ≡ over (list_read k s) out
        → told 0 count (words out') ≡ result_told (ResultReading.list k out) s ink kinds
    unfolding refuse_if
    list_done h count out' c e =
        (λ i. told 0 ((c ∙ size-read k) i) (words ((e ∙ ap (λ (z : List ℕ). over z out) (list_read_lem k)) i)))
        ∙ told-done (ResultReading.list k out) s ink kinds n en gn (rw (le-ltb (length out) (length (list_words k (view_of s kinds))) (let l = long in omega arith)))

-- ---- a list by its place

module _ (s : List ℕ) (A : ListsAt s) (k : Which) (r : RecordList) (e : (r.at ≡ list_start k s) × (r.width ≡ record_words k) × (r.count ≡ list_size k s)) where
  pub list-end : r.at + r.count * r.width ≤ length s
  list-end = subst (λ z. z ≤ length s) (sym (λ i. e.0 i + e.2 i * e.1 i)) (A.room k)

  pub list-part : (n : ℕ) → n ≡ r.count → take (r.at + n * r.width - r.at) (drop r.at s) ≡ list_read k s
  unfolding part
  list-part n f =
      let q : r.at + n * r.width - r.at ≡ n * r.width = omega arith in
      ap (λ z. take z (drop r.at s)) q ∙ (λ i. take ((f ∙ e.2) i * e.1 i) (drop (e.0 i) s))

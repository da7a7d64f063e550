-- The lines of a store that may be read: their medians, the twenty-line measure, the summary.
use mathlib.Core.Path.{◌≡◌, refl, sym, ap, ◌∙◌, subst}
use mathlib.Core.Bool.{Bool, true, false, ◌&&◌, true≢false}
use mathlib.Core.List.{List, [], ◌∷◌}
use Prim.Native.Nat.{ℕ, zero, suc, ◌+◌, ◌*◌, ◌≤◌, ◌<◌}
use native.Mathlib.Decide.{ℕ_discrete}
use native.Mathlib.Nat.{mul-le-mul}
use native.Mathlib.Omega.{arith}
use borrow.Author.Tests.{leb-true, ltb-true}
use lib.Dec.{ltb, leb}
use lib.Ieee.{Float}
use lib.ListN.{length, get_or, drop, set}
use Rattle.memory.specs.rules.Floats.{float_at}
use Rattle.memory.specs.rules.Limits.{max_frame_width, max_frame_height, max_capacity}
use Rattle.memory.specs.rules.Refusals.{refuse_if}
use Rattle.memory.proofs.BoolLaws.{and_left, and_right}
use Rattle.sorting.specs.rules.Units.{median}
use Rattle.grouping.specs.rules.HeldLines.{centre_at, block_at, pitches_below}
use Rattle.memory.specs.rules.Records.{fields}
use Rattle.grouping.specs.rules.Readings.{twenty_of, summarized, summary_numbers}
use Rattle.smoothing.specs.rules.LineRecords.{line_words}
use Rattle.grouping.specs.declared.summary.Summary.{Summary}
use Rattle.segmenting.specs.rules.Results.{lines_at}
use Rattle.judging.specs.rules.Header.{held, frame_held, lists_at, part}
use Rattle.judging.specs.rules.Views.{glyph_height_at, view_of, view_with, rule_count, graphic_count, glyph_count, line_count, block_count}
use Rattle.judging.specs.rules.Spoiled.{every, fields_ok, box_ok, boxes_ok, unit_ok, counts_ok, results_spoiled}
use Rattle.judging.specs.rules.Refusals.{result_refusal}
use Rattle.store.specs.rules.Readings.{ResultReading, Which, pitches_held, twenty_held, summary_held, filled}
use Rattle.store.specs.rules.Readings.Output.{none, floats}
use Rattle.store.specs.rules.Outcomes.{told, result_told}
use Rattle.judging.specs.stages.Judged.{lists_ok, words_ok}
use Rattle.store.specs.stages.Areas.{list_start, lines_words, LinesHere, LinesAt, pitch_read, twenty_read, height_read, summary_words}
use Rattle.judging.proofs.PartLaws.{length_part}
use Rattle.judging.proofs.ResultLaws.{figure-word, figure-float}
use Rattle.judging.proofs.SpoiledLaws.{ReadableResults}
use Rattle.store.proofs.ToldLaws.{told-done}
use Rattle.store.proofs.TellLaws.{sides-are, sides-low, words-ok, counts-low, there, lists_at_lem}

-- ---- the lines of a store that may be read

every_true : (p : ℕ → Bool) (n : ℕ) → every p n ≡ true → (i : ℕ) → i < n → p i ≡ true
unfolding every
every_true p zero e i l = absurd (omega arith)
every_true p (suc n) e i l = go (ℕ_discrete i n) (λ d. every_true p n (and_left (every p n) (p n) e) i d)
  where
    go : Dec (i ≡ n) → (i < n → p i ≡ true) → p i ≡ true
    go (yes q) f = ap p q ∙ and_right (every p n) (p n) e
    go (no q) f = f (omega arith)

lists-true : (w h : ℕ) (s : List ℕ) (at P r g y l b : ℕ) → lists_ok w h s at P r g y l b ≡ true
    → (fields_ok (λ n. leb n h) line_words 6 (part (at + lines_at w P) (l * line_words) s) l ≡ true) × (boxes_ok w h line_words (part (at + lines_at w P) (l * line_words) s) l ≡ true)
    × (fields_ok (λ n. ltb n b) line_words 7 (part (at + lines_at w P) (l * line_words) s) l ≡ true)
unfolding lists_ok
lists-true w h s at P r g y l b e = nine _ _ _ _ _ _ _ _ _ e
  where
    nine : (t₁ t₂ t₃ t₄ t₅ t₆ t₇ t₈ t₉ : Bool) → (t₁ && t₂ && t₃ && t₄ && t₅ && t₆ && t₇ && t₈ && t₉) ≡ true → (t₁ ≡ true) × (t₆ ≡ true) × (t₉ ≡ true)
    nine true true true true true true true true true e = (refl, refl, refl)
    nine true true true true true true true true false e = absurd (true≢false (sym e))
    nine true true true true true true true false t₉ e = absurd (true≢false (sym e))
    nine true true true true true true false t₈ t₉ e = absurd (true≢false (sym e))
    nine true true true true true false t₇ t₈ t₉ e = absurd (true≢false (sym e))
    nine true true true true false t₆ t₇ t₈ t₉ e = absurd (true≢false (sym e))
    nine true true true false t₅ t₆ t₇ t₈ t₉ e = absurd (true≢false (sym e))
    nine true true false t₄ t₅ t₆ t₇ t₈ t₉ e = absurd (true≢false (sym e))
    nine true false t₃ t₄ t₅ t₆ t₇ t₈ t₉ e = absurd (true≢false (sym e))
    nine false t₂ t₃ t₄ t₅ t₆ t₇ t₈ t₉ e = absurd (true≢false (sym e))

-- what the tests say of n lines in p
module _ (w h n m : ℕ) (p : List ℕ) (few : n ≤ max_capacity) (few_blocks : m ≤ max_capacity) (low : h ≤ max_frame_height) (long : n * line_words ≤ length p) (a : fields_ok (λ v. leb v h) line_words 6 p n ≡ true) (b : boxes_ok w h line_words p n ≡ true)
    (c : fields_ok (λ v. ltb v m) line_words 7 p n ≡ true) where
  box-true : (i : ℕ) → i < n → (get_or p (i * 8 + 1) 0 ≤ get_or p (i * 8 + 3) 0) × (get_or p (i * 8 + 3) 0 < h)
  unfolding boxes_ok
  box-true i l =
      let t₁ = leb (get_or p (i * 8) 0) (get_or p (i * 8 + 2) 0) in
      let t₂ = ltb (get_or p (i * 8 + 2) 0) w in
      let t₃ = leb (get_or p (i * 8 + 1) 0) (get_or p (i * 8 + 3) 0) in
      let t₄ = ltb (get_or p (i * 8 + 3) 0) h in
      let e = every_true (λ k. box_ok w h p (k * 8)) n b i l in
      let f = and_left (t₁ && t₂ && t₃) t₄ e in
      (leb-true _ _ (and_right (t₁ && t₂) t₃ f), ltb-true _ _ (and_right (t₁ && t₂ && t₃) t₄ e))

  height-true : (i : ℕ) → i < n → get_or p (i * 8 + 6) 0 ≤ h
  unfolding fields_ok
  height-true i l = leb-true _ _ (every_true (λ k. leb (get_or p (k * 8 + 6) 0) h) n a i l)

  block-true : (i : ℕ) → i < n → get_or p (i * 8 + 7) 0 < m
  unfolding fields_ok
  block-true i l = ltb-true _ _ (every_true (λ k. ltb (get_or p (k * 8 + 7) 0) m) n c i l)

  lines-true : LinesHere h n m p
  lines-true =
      record {
        lines = record { room = long; centres = λ i l. (let x = box-true i l in omega (arith, x.0, x.1)); blocks = block-true; few = omega arith };
        heights = height-true;
        few = few;
        few_blocks = few_blocks;
        low = low;
      }

module _ (s ink kinds : List ℕ) (R : ReadableResults s ink kinds) where
  lists-are : lists_ok (frame_held (held s)).w (frame_held (held s)).h s (lists_at (held s).page_w (frame_held (held s)).h) (held s).capacity (rule_count (part 10 15 s)) (graphic_count (part 10 15 s)) (glyph_count (part 10 15 s)) (line_count (part 10 15 s)) (block_count (part 10 15 s)) ≡ true
  unfolding words_ok
  lists-are = and_right (unit_ok (part 10 15 s) && counts_ok (frame_held (held s)).w (held s).capacity (part 10 15 s)) _ (words-ok s ink kinds R)

  -- the same with the words of the store itself
  lists-words : lists_ok (get_or s 3 0) (get_or s 4 0) s (lists_at (get_or s 1 0) (get_or s 4 0)) (get_or s 5 0) (get_or s 13 0) (get_or s 14 0) (get_or s 15 0) (get_or s 16 0) (get_or s 17 0) ≡ true
  lists-words =
      let a = sides-are s ink kinds R in
      let word : (j : ℕ) → j < 15 → get_or s (10 + j) 0 ≡ get_or (part 10 15 s) j 0 = λ j l. sym (figure-word s j l) in
      let r = word 3 (omega arith) in
      let g = word 4 (omega arith) in
      let y = word 5 (omega arith) in
      let l = word 6 (omega arith) in
      let b = word 7 (omega arith) in
      (λ i. lists_ok (a.1 i) (a.2 i) s (lists_at (a.4 i) (a.2 i)) (a.3 i) (r i) (g i) (y i) (l i) (b i)) ∙ lists-are

  pub lines_at_lem : LinesAt s
  lines_at_lem =
      let low = sides-low s ink kinds R in
      let room = there s ink kinds R Which.lines in
      let few = (counts-low s ink kinds R).3 in
      let many = (counts-low s ink kinds R).4 in
      let a = sides-are s ink kinds R in
      let P = a.3 in
      let t = lists-true (get_or s 3 0) (get_or s 4 0) s (lists_at (get_or s 1 0) (get_or s 4 0)) (get_or s 5 0) (get_or s 13 0) (get_or s 14 0) (get_or s 15 0) (get_or s 16 0) (get_or s 17 0) lists-words in
      let long = length_part (list_start Which.lines s) (get_or s 16 0 * 8) s room in
      record {
        lists = lists_at_lem s ink kinds R;
        lines = lines-true (get_or s 3 0) (get_or s 4 0) (get_or s 16 0) (get_or s 17 0) (lines_words s) (omega (arith, few, P, low.3)) (omega (arith, many, P, low.3)) low.2 (omega (arith, long)) t.0 t.1 t.2;
      }

  -- the median of what is read
  pitch-is : pitch_read s ≡ median (pitches_held (view_of s kinds))
  unfolding view_of view_with pitch_read
  pitch-is =
      let a = sides-are s ink kinds R in
      let l = sym (figure-word s 6 (omega arith)) in
      let b = sym (figure-word s 7 (omega arith)) in
      λ i. (let p = part (lists_at (a.0 i) (a.2 i) + lines_at (a.1 i) (a.3 i)) (l i * line_words) s in median (pitches_below (centre_at p) (block_at p) (l i) (b i)))

  height-is : height_read s ≡ median (fields line_words glyph_height_at (view_of s kinds).lines (line_count (view_of s kinds).figures))
  unfolding view_of view_with height_read
  height-is =
      let a = sides-are s ink kinds R in
      let l = sym (figure-word s 6 (omega arith)) in
      λ i. median (fields line_words glyph_height_at (part (lists_at (a.0 i) (a.2 i) + lines_at (a.1 i) (a.3 i)) (l i * line_words) s) (l i))

  twenty-is : twenty_read s ≡ twenty_held (view_of s kinds)
  unfolding view_of view_with twenty_read twenty_held
  twenty-is =
      let a = sides-are s ink kinds R in
      let l = sym (figure-word s 6 (omega arith)) in
      let b = sym (figure-word s 7 (omega arith)) in
      λ i. (let p = part (lists_at (a.0 i) (a.2 i) + lines_at (a.1 i) (a.3 i)) (l i * line_words) s in twenty_of (pitches_below (centre_at p) (block_at p) (l i) (b i)))

  pub twenty-done : (n : ℕ) → n ≡ result_refusal (length s) (length ink) (length kinds) (held s) false (results_spoiled s ink kinds) false false → n ≡ 0
      → (r : ℕ) → r ≡ twenty_read s → told 0 r none ≡ result_told ResultReading.twenty_lines s ink kinds
  unfolding refuse_if
  twenty-done n en gn r e = ap (λ z. told 0 z none) (e ∙ twenty-is) ∙ told-done ResultReading.twenty_lines s ink kinds n en gn refl

-- the lines that a reading lends
module _ (s : List ℕ) (p : List ℕ) (e : p ≡ lines_words s) where
  pub lines-asked : LinesAt s → LinesHere (get_or s 4 0) (get_or s 16 0) (get_or s 17 0) p
  lines-asked L = subst (λ (l : List ℕ). LinesHere (get_or s 4 0) (get_or s 16 0) (get_or s 17 0) l) (sym e) L.lines

  pub twenty-found : (r : ℕ) → r ≡ twenty_of (pitches_below (centre_at p) (block_at p) (get_or s 16 0) (get_or s 17 0)) → r ≡ twenty_read s
  unfolding twenty_read
  twenty-found r f = f ∙ ap (λ (l : List ℕ). twenty_of (pitches_below (centre_at l) (block_at l) (get_or s 16 0) (get_or s 17 0))) e

  pub pitch-found : (r : ℕ) → r ≡ median (pitches_below (centre_at p) (block_at p) (get_or s 16 0) (get_or s 17 0)) → r ≡ pitch_read s
  unfolding pitch_read
  pitch-found r f = f ∙ ap (λ (l : List ℕ). median (pitches_below (centre_at l) (block_at l) (get_or s 16 0) (get_or s 17 0))) e

  pub height-found : (r : ℕ) → r ≡ median (fields line_words glyph_height_at p (get_or s 16 0)) → r ≡ height_read s
  unfolding height_read
  height-found r f = f ∙ ap (λ (l : List ℕ). median (fields line_words glyph_height_at l (get_or s 16 0))) e

-- ---- the summary

module _ (s ink kinds : List ℕ) (R : ReadableResults s ink kinds) where
  pub dots-fit : get_or s 3 0 * get_or s 4 0 ≤ 4294967295
  dots-fit =
      let low = sides-low s ink kinds R in
      let m : get_or s 3 0 * get_or s 4 0 ≤ max_frame_width * max_frame_height = mul-le-mul low.1 low.2 in
      omega (arith, m)

  skew-is : float_at s 6 ≡ (held s).skew
  unfolding held
  skew-is = refl

  summary-is : summary_words s ≡ summary_held (view_of s kinds)
  unfolding summary_words summary_held view_of view_with
  summary-is =
      let a = sides-are s ink kinds R in
      let word : (j : ℕ) → j < 15 → get_or s (10 + j) 0 ≡ get_or (part 10 15 s) j 0 = λ j l. sym (figure-word s j l) in
      let u = sym (figure-float s) in
      let r = word 3 (omega arith) in
      let g = word 4 (omega arith) in
      let y = word 5 (omega arith) in
      let l = word 6 (omega arith) in
      let b = word 7 (omega arith) in
      let c = word 8 (omega arith) in
      let k = word 9 (omega arith) in
      let n = word 13 (omega arith) in
      let p = pitch-is s ink kinds R in
      let h = height-is s ink kinds R in
      λ i. summarized (u i) (skew-is i) (a.1 i) (a.2 i)
      (record { glyphs = y i; lines = l i; blocks = b i; columns = c i; rules = r i; graphics = g i; glyph_ink = n i; ink = k i }) (p i) (h i)

  pub summary-done : (out : List Float) (n : ℕ) → n ≡ result_refusal (length s) (length ink) (length kinds) (held s) (ltb (length out) 12) (results_spoiled s ink kinds) false false → n ≡ 0
      → (t : Summary) → t ≡ summary_words s → (out' : List Float) → out' ≡ filled (summary_numbers t) out → told 0 0 (floats out') ≡ result_told (ResultReading.summary out) s ink kinds
  unfolding refuse_if
  summary-done out n en gn t e out' f =
      (λ i. told 0 0 (floats ((f ∙ (λ j. filled (summary_numbers ((e ∙ summary-is) j)) out)) i))) ∙ told-done (ResultReading.summary out) s ink kinds n en gn refl

-- twelve floats over the front
pub twelve : (out : List Float) (a b c d e f g h i j k l : Float) → 12 ≤ length out
    → set (set (set (set (set (set (set (set (set (set (set (set out 0 a) 1 b) 2 c) 3 d) 4 e) 5 f) 6 g) 7 h) 8 i) 9 j) 10 k) 11 l ≡ a ∷ b ∷ c ∷ d ∷ e ∷ f ∷ g ∷ h ∷ i ∷ j ∷ k ∷ l ∷ drop 12 out
twelve [] a b c d e f g h i j k l z = absurd (omega arith)
twelve (x₁ ∷ []) a b c d e f g h i j k l z = absurd (omega arith)
twelve (x₁ ∷ x₂ ∷ []) a b c d e f g h i j k l z = absurd (omega arith)
twelve (x₁ ∷ x₂ ∷ x₃ ∷ []) a b c d e f g h i j k l z = absurd (omega arith)
twelve (x₁ ∷ x₂ ∷ x₃ ∷ x₄ ∷ []) a b c d e f g h i j k l z = absurd (omega arith)
twelve (x₁ ∷ x₂ ∷ x₃ ∷ x₄ ∷ x₅ ∷ []) a b c d e f g h i j k l z = absurd (omega arith)
twelve (x₁ ∷ x₂ ∷ x₃ ∷ x₄ ∷ x₅ ∷ x₆ ∷ []) a b c d e f g h i j k l z = absurd (omega arith)
twelve (x₁ ∷ x₂ ∷ x₃ ∷ x₄ ∷ x₅ ∷ x₆ ∷ x₇ ∷ []) a b c d e f g h i j k l z = absurd (omega arith)
twelve (x₁ ∷ x₂ ∷ x₃ ∷ x₄ ∷ x₅ ∷ x₆ ∷ x₇ ∷ x₈ ∷ []) a b c d e f g h i j k l z = absurd (omega arith)
twelve (x₁ ∷ x₂ ∷ x₃ ∷ x₄ ∷ x₅ ∷ x₆ ∷ x₇ ∷ x₈ ∷ x₉ ∷ []) a b c d e f g h i j k l z = absurd (omega arith)
twelve (x₁ ∷ x₂ ∷ x₃ ∷ x₄ ∷ x₅ ∷ x₆ ∷ x₇ ∷ x₈ ∷ x₉ ∷ y₁ ∷ []) a b c d e f g h i j k l z = absurd (omega arith)
twelve (x₁ ∷ x₂ ∷ x₃ ∷ x₄ ∷ x₅ ∷ x₆ ∷ x₇ ∷ x₈ ∷ x₉ ∷ y₁ ∷ y₂ ∷ []) a b c d e f g h i j k l z = absurd (omega arith)
twelve (x₁ ∷ x₂ ∷ x₃ ∷ x₄ ∷ x₅ ∷ x₆ ∷ x₇ ∷ x₈ ∷ x₉ ∷ y₁ ∷ y₂ ∷ y₃ ∷ out) a b c d e f g h i j k l z = refl

pub summary-by : (s : List ℕ) (r : Summary) (u k : Float) (p q : ℕ) → u ≡ float_at s 11 → k ≡ float_at s 6 → p ≡ pitch_read s → q ≡ height_read s
    → r ≡ summarized u k (get_or s 3 0) (get_or s 4 0) (record { glyphs = get_or s 15 0; lines = get_or s 16 0; blocks = get_or s 17 0; columns = get_or s 18 0; rules = get_or s 13 0; graphics = get_or s 14 0; glyph_ink = get_or s 23 0; ink = get_or s 19 0 }) p q
    → r ≡ summary_words s
unfolding summary_words
summary-by s r u k p q eu ek ep eq e =
    e ∙ (λ i. summarized (eu i) (ek i) (get_or s 3 0) (get_or s 4 0) (record { glyphs = get_or s 15 0; lines = get_or s 16 0; blocks = get_or s 17 0; columns = get_or s 18 0; rules = get_or s 13 0; graphics = get_or s 14 0; glyph_ink = get_or s 23 0; ink = get_or s 19 0 }) (ep i) (eq i))

-- Glyphs of a page and of a line: their records, their ink and their heights, one component after the other.
use mathlib.Core.Path.{◌≡◌, refl, sym, ap, ◌∙◌, subst}
use mathlib.Core.Bool.{Bool, true, false}
use mathlib.Core.List.{List, [], ◌∷◌, ◌++◌, map}
use Prim.Native.Nat.{ℕ, zero, suc, ◌+◌, ◌*◌, ◌/◌, ◌≤◌, ◌<◌}
use native.Mathlib.Decide.{ℕ_discrete}
use native.Mathlib.Numerals.{add-one}
use native.Mathlib.Omega.{arith}
use borrow.Author.Tests.{lt-ltb, le-ltb}
use lib.ListN.{length, length-append}
use lib.Seq.{sets}
use lib.Dec.{eqb, ltb}
use Rattle.memory.specs.rules.Lists.{table, upto, keep, total}
use Rattle.memory.specs.rules.Words.{over}
use Rattle.memory.specs.rules.Records.{encoded}
use Rattle.memory.proofs.RecordLaws.{length-encoded, record-more}
use Rattle.memory.proofs.TableLaws.{length-table}
use Rattle.memory.specs.rules.Rects.{height}
use Rattle.sorting.specs.rules.Units.{median}
use Rattle.memory.specs.stages.Stored.{Stored}
use Rattle.sorting.specs.stages.Measures.{size_box}
use Rattle.smoothing.specs.stages.LineWords.{label_at, area_at, glyphs_among, glyph_record_at, WrittenGlyph, WrittenGlyphs, own_glyphs, own_ink, own_heights, line_fields, line_record_at, KeptFrom}
use Rattle.memory.proofs.ListLaws.{keep-snoc-yes, keep-snoc-no, keep-few, map-append}
use Rattle.smoothing.proofs.SmearLaws.{box-kept}

-- Records of the glyphs

module _ (sizes kinds numbers : ℕ) (s : List ℕ) where
  among-yes : (k : ℕ) → 0 < label_at s kinds k → glyphs_among s kinds (k + 1) ≡ glyphs_among s kinds k ++ (k ∷ [])
  unfolding upto table
  among-yes k h = ap (glyphs_among s kinds) (add-one k) ∙ keep-snoc-yes (λ j. ltb 0 (label_at s kinds j)) (upto k) k (lt-ltb 0 (label_at s kinds k) h)

  among-no : (k : ℕ) → label_at s kinds k ≡ 0 → glyphs_among s kinds (k + 1) ≡ glyphs_among s kinds k
  unfolding upto table
  among-no k e = ap (glyphs_among s kinds) (add-one k) ∙ keep-snoc-no (λ j. ltb 0 (label_at s kinds j)) (upto k) k (le-ltb 0 (label_at s kinds k) (omega arith))

  pub glyphs-none : (out : List ℕ) → WrittenGlyphs sizes kinds 0 numbers s out out 0
  unfolding keep upto table encoded
  glyphs-none out = record { count_is = refl; words = refl }

  module _ (k n : ℕ) (out₀ out : List ℕ) (w : WrittenGlyphs sizes kinds k numbers s out₀ out n) where
    pub glyphs-few : n ≤ k
    glyphs-few = let a = keep-few (λ j. ltb 0 (label_at s kinds j)) k in let b = w.count_is in omega arith

    pub glyphs-more : (r : ℕ) (out' : List ℕ) → n * 6 + 6 ≤ length out₀ → WrittenGlyph (label_at s kinds k) (glyph_record_at s sizes kinds numbers k) n out out' r
        → WrittenGlyphs sizes kinds (k + 1) numbers s out₀ out' r
    glyphs-more r out' h g = go (ℕ_discrete (label_at s kinds k) 0)
      where
        go : Dec (label_at s kinds k ≡ 0) → WrittenGlyphs sizes kinds (k + 1) numbers s out₀ out' r
        go (yes e) =
            record {
              count_is = g.none_count e ∙ (w.count_is ∙ ap length (sym (among-no k e)));
              words = g.none_words e ∙ (w.words ∙ ap (λ (l : List ℕ). over (encoded (glyph_record_at s sizes kinds numbers) l) out₀) (sym (among-no k e)));
            }
        go (no e) =
            let m = among-yes k (omega arith) in
            let q : n * 6 ≡ length (encoded (glyph_record_at s sizes kinds numbers) (glyphs_among s kinds k)) = ap (λ z. z * 6) w.count_is ∙ sym (length-encoded (glyph_record_at s sizes kinds numbers) 6 (λ j. refl) (glyphs_among s kinds k)) in
            record {
              count_is = g.some_count (omega arith) ∙ (let a = w.count_is in let b = length-append (glyphs_among s kinds k) (k ∷ []) in let d = ap length m in omega arith);
              words =
                  g.some_words (omega arith)
                  ∙ (ap (λ (z : List ℕ). sets z (n * 6) (glyph_record_at s sizes kinds numbers k)) w.words
                  ∙ (record-more (glyph_record_at s sizes kinds numbers) 6 (λ j. refl) (glyphs_among s kinds k) k out₀ (n * 6) q h
                  ∙ ap (λ (l : List ℕ). over (encoded (glyph_record_at s sizes kinds numbers) l) out₀) (sym m)));
            }

-- Sums

pub total-snoc : (l : List ℕ) (a : ℕ) → total (l ++ (a ∷ [])) ≡ total l + a
unfolding total
total-snoc [] a = let e : a + 0 ≡ 0 + a = omega arith in e
total-snoc (b ∷ l) a = let e = total-snoc l a in omega arith

pub table-total : (f : ℕ → ℕ) (k n : ℕ) → k < n → total (table f k) + f k ≤ total (table f n)
unfolding table
table-total f k zero h = absurd (omega arith)
table-total f k (suc n) h = go (λ l. table-total f k n l) (ℕ_discrete k n)
  where
    go : (k < n → total (table f k) + f k ≤ total (table f n)) → Dec (k ≡ n) → total (table f k) + f k ≤ total (table f n ++ (f n ∷ []))
    go ih (yes e) = subst (λ z. total (table f z) + f z ≤ total (table f n ++ (f n ∷ []))) (sym e) (let a = total-snoc (table f n) (f n) in omega arith)
    go ih (no e) = let a = ih (omega arith) in let b = total-snoc (table f n) (f n) in omega arith

-- those kept have no more in all than all
pub kept-total : (f : ℕ → ℕ) (q : ℕ → Bool) (n : ℕ) → total (map f (keep q (upto n))) ≤ total (table f n)
unfolding table upto keep
kept-total f q zero = omega arith
kept-total f q (suc n) = go (q n) refl (kept-total f q n)
  where
    go : (b : Bool) → q n ≡ b → total (map f (keep q (upto n))) ≤ total (table f n) → total (map f (keep q (upto n ++ (n ∷ [])))) ≤ total (table f n ++ (f n ∷ []))
    go true e ih =
        let a = ap (λ (l : List ℕ). total (map f l)) (keep-snoc-yes q (upto n) n e) in
        let b = ap total (map-append f (keep q (upto n)) (n ∷ [])) in
        let d = total-snoc (map f (keep q (upto n))) (f n) in
        let g = total-snoc (table f n) (f n) in
        omega arith
    go false e ih =
        let a = ap (λ (l : List ℕ). total (map f l)) (keep-snoc-no q (upto n) n e) in
        let g = total-snoc (table f n) (f n) in
        omega arith

-- Words kept from a place on

pub kept-stored : {f : ℕ → ℕ} {at n : ℕ} {s s' : List ℕ} → Stored f at n s s' → KeptFrom (at + n) s s'
kept-stored r = record { len = r.within.len; same = r.within.past }

module _ (at : ℕ) (s s' : List ℕ) (r : KeptFrom at s s') where
  pub label_same : (kinds : ℕ) → at ≤ kinds → (k : ℕ) → label_at s' kinds k ≡ label_at s kinds k
  label_same kinds h k = ap (λ n. n / 8) (r.same (kinds + k) (omega arith))

  pub area_same : (sizes : ℕ) → at ≤ sizes → (k : ℕ) → area_at s' sizes k ≡ area_at s sizes k
  area_same sizes h k = r.same (sizes + k * 5) (omega arith)

  pub box-same : (sizes : ℕ) → at ≤ sizes → (k : ℕ) → size_box s' sizes k ≡ size_box s sizes k
  box-same sizes h k = box-kept s s' sizes (λ i l. r.same i (omega arith)) k

  pub own_same : (kinds : ℕ) → at ≤ kinds → (count t : ℕ) → own_glyphs s' kinds count t ≡ own_glyphs s kinds count t
  own_same kinds h count t = λ i. keep (λ k. eqb (label_same kinds h k i) t) (upto count)

  pub heights-same : (sizes kinds : ℕ) → at ≤ sizes → at ≤ kinds → (count t : ℕ) → own_heights s' sizes kinds count t ≡ own_heights s sizes kinds count t
  heights-same sizes kinds h g count t = λ i. map (λ k. height (box-same sizes h k i)) (own_same kinds g count t i)

  ink-same : (sizes kinds : ℕ) → at ≤ sizes → at ≤ kinds → (count t : ℕ) → own_ink s' sizes kinds count t ≡ own_ink s sizes kinds count t
  ink-same sizes kinds h g count t = λ i. total (map (λ k. area_same sizes h k i) (own_same kinds g count t i))

  pub line_same : (smoothed glyphs sizes kinds count t : ℕ) → at ≤ smoothed → at ≤ glyphs → at ≤ sizes → at ≤ kinds
      → line_record_at s' smoothed glyphs sizes kinds count t ≡ line_record_at s smoothed glyphs sizes kinds count t
  line_same smoothed glyphs sizes kinds count t a b d e =
      λ i. line_fields (box-same smoothed a t i) (r.same (glyphs + t) (omega arith) i) (ink-same sizes kinds d e count (suc t) i) (median (heights-same sizes kinds d e count (suc t) i))

-- Records of the lines

pub lines_none : (f : ℕ → List ℕ) (out : List ℕ) → out ≡ over (encoded f (upto 0)) out
unfolding upto table encoded
lines_none f out = refl

pub lines_more : (f : ℕ → List ℕ) → ((i : ℕ) → length (f i) ≡ 8) → (i : ℕ) (out₀ out out' : List ℕ) → i * 8 + 8 ≤ length out₀ → out ≡ over (encoded f (upto i)) out₀ → out' ≡ sets out (i * 8) (f i)
    → out' ≡ over (encoded f (upto (i + 1))) out₀
unfolding upto table
lines_more f eight i out₀ out out' h e q =
    q
    ∙ (ap (λ (z : List ℕ). sets z (i * 8) (f i)) e
    ∙ (record-more f 8 eight (upto i) i out₀ (i * 8) (sym (length-encoded f 8 eight (upto i) ∙ ap (λ n. n * 8) (length-table (λ j. j) i))) h
    ∙ ap (λ n. over (encoded f (upto n)) out₀) (sym (add-one i))))

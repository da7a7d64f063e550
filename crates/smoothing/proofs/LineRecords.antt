-- The records that are written are those of the page's glyphs and lines, with 0 for the block of each line.
use mathlib.Core.Path.{◌≡◌, refl, sym, ap, ◌∙◌, subst}
use mathlib.Core.Bool.{Bool, true, false, cond}
use mathlib.Core.List.{List, [], ◌∷◌, ◌++◌, map}
use Prim.Native.Nat.{ℕ, suc, ◌+◌, ◌-◌, ◌≤◌, ◌<◌}
use native.Mathlib.Nat.{le_refl, not-suc-le-zero}
use native.Mathlib.Omega.{arith}
use borrow.Author.Tests.{ltb-true}
use lib.Ieee.{Float}
use lib.ListN.{get_or, length, length-map, get_or-map}
use lib.Seq.{ext_get_or}
use lib.Dec.{eqb, ltb}
use Rattle.memory.specs.rules.Lists.{table, upto}
use Rattle.memory.specs.rules.Records.{encoded}
use Rattle.memory.proofs.TableLaws.{length-table, get_or-table, get_or-default}
use Rattle.labelling.specs.declared.component.Component.{Component}
use Rattle.params.specs.declared.LayoutParams.{LayoutParams}
use Rattle.sorting.specs.rules.Units.{median}
use Rattle.sorting.proofs.SizedLaws.{size-box}
use Rattle.smoothing.specs.rules.Lines.{LabelledGlyph, SmoothedLine, smoothed_line, kept_lines, line_number, glyph_box}
use Rattle.smoothing.specs.rules.LineRecords.{line_record, glyph_record}
use Rattle.smoothing.specs.stages.LineWords.{glyphs_of, label_at, line_smears, ordered_smear, glyphs_among, glyph_fields, glyph_record_at, line_fields, line_record_at, plain_line, HoldsGlyphs, HoldsSmears}
use Rattle.memory.proofs.ListLaws.{Each, each_at, each_keep, each-table, map-table}
use Rattle.smoothing.proofs.SmearLaws.{kept_low, smears-low}
use Rattle.smoothing.proofs.LineLaws.{map-map, upto-map, held-area, label_of, glyph_of, glyphs-are, ink_is, heights-are, line_of, lines_are}

encoded-map : {A B : Type 0} (words : B → List ℕ) (f : A → B) (l : List A) → encoded words (map f l) ≡ encoded (λ a. words (f a)) l
unfolding encoded
encoded-map words f [] = refl
encoded-map words f (a ∷ l) = ap (λ (t : List ℕ). words (f a) ++ t) (encoded-map words f l)

pub encoded-each : {A : Type 0} (P : A → Type 0) (v w : A → List ℕ) → ((a : A) → P a → v a ≡ w a) → (l : List A) → Each P l → encoded v l ≡ encoded w l
unfolding encoded
encoded-each P v w h [] e = refl
encoded-each P v w h (a ∷ l) (x, e) = λ i. h a x i ++ encoded-each P v w h l e i

each_both : {A : Type 0} (P Q : A → Type 0) (l : List A) → Each P l → Each Q l → Each (λ a. P a × Q a) l
each_both P Q [] x y = tt
each_both P Q (a ∷ l) (x, xs) (y, ys) = ((x, y), each_both P Q l xs ys)

pub upto-low : (m n : ℕ) → n ≤ m → Each (λ i. i < m) (upto n)
unfolding upto
upto-low m n h = each-table (λ i. i < m) (λ i. i) n (λ i l. omega arith)

pub whole : {A : Type 0} (l : List A) (d : A) → table (λ i. get_or l i d) (length l) ≡ l
whole l d = ext_get_or d (table (λ i. get_or l i d) (length l)) l (length-table (λ i. get_or l i d) (length l)) (λ i k. get_or-table (λ i. get_or l i d) (length l) i d (let e = length-table (λ i. get_or l i d) (length l) in omega arith))

-- Glyphs

module _ (cs : List Component) (ks : List ℕ) (labels : ℕ → ℕ) (sizes kinds : ℕ) (s : List ℕ) (h : HoldsGlyphs cs ks labels sizes kinds s)
    (ls : List SmoothedLine) (numbers smears : ℕ) (numbered : (t : ℕ) → t < smears → get_or s (numbers + t) 0 ≡ line_number ls (suc t))
    (low : (k : ℕ) → k < length cs → label_at s kinds k ≤ smears) where
  own-label : (k : ℕ) → k < length cs → 0 < label_at s kinds k → label_at s kinds k ≡ labels k
  own-label k l p = label_of cs ks labels sizes kinds s h k l ∙ go (eqb (get_or ks k 0) 4) (subst (λ n. 0 < n) (label_of cs ks labels sizes kinds s h k l) p)
    where
      go : (t : Bool) → 0 < cond t (labels k) 0 → cond t (labels k) 0 ≡ labels k
      go true q = refl
      go false q = absurd (not-suc-le-zero q)

  line-of : (k : ℕ) → k < length cs → 0 < label_at s kinds k → get_or s (numbers + (label_at s kinds k - 1)) 0 ≡ line_number ls (labels k)
  line-of k l p =
      let m = low k l in
      let e : suc (label_at s kinds k - 1) ≡ label_at s kinds k = omega arith in
      numbered (label_at s kinds k - 1) (omega arith) ∙ ap (line_number ls) (e ∙ own-label k l p)

  fields-are : (k : ℕ) → (k < length cs) × (ltb 0 (label_at s kinds k) ≡ true) → glyph_record_at s sizes kinds numbers k ≡ glyph_record (glyph_box ls (glyph_of cs labels k))
  unfolding glyph_box
  fields-are k (l, p) = λ i. glyph_fields (size-box cs s sizes h.held k l i) (held-area cs s sizes h.held k l i) (line-of k l (ltb-true 0 (label_at s kinds k) p) i)

  -- the records that `write_glyphs` writes
  pub glyph-records : encoded (glyph_record_at s sizes kinds numbers) (glyphs_among s kinds (length cs)) ≡ encoded glyph_record (map (glyph_box ls) (glyphs_of cs ks labels))
  glyph-records =
      encoded-each (λ k. (k < length cs) × (ltb 0 (label_at s kinds k) ≡ true)) (glyph_record_at s sizes kinds numbers) (λ k. glyph_record (glyph_box ls (glyph_of cs labels k))) fields-are (glyphs_among s kinds (length cs))
      (each_both (λ k. k < length cs) (λ k. ltb 0 (label_at s kinds k) ≡ true) (glyphs_among s kinds (length cs))
      (kept_low (λ k. ltb 0 (label_at s kinds k)) (length cs) (length cs) (le_refl (length cs)))
      (each_keep (λ k. ltb 0 (label_at s kinds k) ≡ true) (λ k. ltb 0 (label_at s kinds k)) (λ k e. e) (upto (length cs))))
      ∙ (sym (encoded-map glyph_record (λ k. glyph_box ls (glyph_of cs labels k)) (glyphs_among s kinds (length cs)))
      ∙ ap (encoded glyph_record)
      (sym (map-map (glyph_of cs labels) (glyph_box ls) (glyphs_among s kinds (length cs))) ∙ ap (map (glyph_box ls)) (sym (glyphs-are cs ks labels sizes kinds s h))))

-- Lines

plain_at : (ls : List SmoothedLine) (i : ℕ) (d : SmoothedLine) → i < length ls
    → line_record (plain_line ls i) ≡ line_fields (get_or ls i d).bbox (get_or ls i d).glyphs (get_or ls i d).ink_area (get_or ls i d).glyph_height
plain_at ls i d h = ap (λ (l : SmoothedLine). line_fields l.bbox l.glyphs l.ink_area l.glyph_height) (get_or-default ls i _ d h)

module _ (p : LayoutParams) (unit : Float) (cs : List Component) (ks : List ℕ) (labels : ℕ → ℕ) (sizes kinds : ℕ) (s : List ℕ) (h : HoldsGlyphs cs ks labels sizes kinds s)
    (smears : List Component) (smoothed glyphs : ℕ) (g : HoldsSmears (glyphs_of cs ks labels) smears smoothed glyphs s) where
  line-fields : (t : ℕ) → t < length smears
      → line_record_at s smoothed glyphs sizes kinds (length cs) t
      ≡ (let l = line_of (glyphs_of cs ks labels) smears t in line_fields l.bbox l.glyphs l.ink_area l.glyph_height)
  unfolding smoothed_line
  line-fields t l =
      λ i. line_fields (size-box smears s smoothed g.held t l i) (g.counts t l i) (ink_is cs ks labels sizes kinds s h (suc t) (omega arith) i) (median (heights-are cs ks labels sizes kinds s h (suc t) (omega arith) i))

  -- the records that `write_lines` writes, where the labels at `order` are those of the lines in their order
  pub line-records : (order n : ℕ) (s' : List ℕ) → n ≡ length (kept_lines p unit (glyphs_of cs ks labels) smears)
      → ((i : ℕ) → i < n → ordered_smear s' order i ≡ get_or (line_smears p unit s smoothed glyphs (length smears)) i 0)
      → encoded (λ i. line_record_at s smoothed glyphs sizes kinds (length cs) (ordered_smear s' order i)) (upto n)
      ≡ encoded line_record (table (plain_line (kept_lines p unit (glyphs_of cs ks labels) smears)) n)
  line-records order n s' e o =
      encoded-each (λ i. i < n) (λ i. line_record_at s smoothed glyphs sizes kinds (length cs) (ordered_smear s' order i)) (λ i. line_record (plain_line ls i)) one (upto n) below
      ∙ (sym (encoded-map line_record (plain_line ls) (upto n)) ∙ ap (encoded line_record) (upto-map (plain_line ls) n))
    where
      gs : List LabelledGlyph
      gs = glyphs_of cs ks labels

      ls : List SmoothedLine
      ls = kept_lines p unit (glyphs_of cs ks labels) smears

      rs : List ℕ
      rs = line_smears p unit s smoothed glyphs (length smears)

      long : n ≡ length rs
      long = e ∙ (ap length (lines_are p unit gs smears smoothed glyphs s g) ∙ length-map rs (line_of gs smears))

      below : Each (λ i. i < n) (upto n)
      below = upto-low n n (le_refl n)

      one : (i : ℕ) → i < n → line_record_at s smoothed glyphs sizes kinds (length cs) (ordered_smear s' order i) ≡ line_record (plain_line ls i)
      one i l =
          let t = get_or rs i 0 in
          let low : t < length smears = each_at (λ a. a < length smears) rs (smears-low p unit s smoothed glyphs (length smears)) i 0 (let m : n ≡ length rs = long in omega arith) in
          let there : get_or ls i (line_of gs smears 0) ≡ line_of gs smears t = ap (λ (z : List SmoothedLine). get_or z i (line_of gs smears 0)) (lines_are p unit gs smears smoothed glyphs s g) ∙ get_or-map (line_of gs smears) rs i 0 in
          ap (line_record_at s smoothed glyphs sizes kinds (length cs)) (o i l)
          ∙ (line-fields t low
          ∙ (ap (λ (z : SmoothedLine). line_fields z.bbox z.glyphs z.ink_area z.glyph_height) (sym there) ∙ sym (plain_at ls i (line_of gs smears 0) (let m : n ≡ length ls = e in omega arith))))

pub plain-boxes : (ls : List SmoothedLine) → table (λ i. (plain_line ls i).bbox) (length ls) ≡ map (λ (l : SmoothedLine). l.bbox) ls
plain-boxes ls = sym (map-table (λ (l : SmoothedLine). l.bbox) (λ i. get_or ls i _) (length ls)) ∙ ap (map (λ (l : SmoothedLine). l.bbox)) (whole ls _)

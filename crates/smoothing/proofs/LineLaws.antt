-- What the words of scratch say of glyphs and lines is what the definitions say of them.
use mathlib.Core.Path.{◌≡◌, refl, sym, ap, ◌∙◌}
use mathlib.Core.Bool.{Bool, true, false, cond, ◌&&◌}
use mathlib.Core.List.{List, [], ◌∷◌, map}
use Prim.Native.Nat.{ℕ, zero, suc, ◌+◌, ◌*◌, ◌/◌, ◌≤◌, ◌<◌}
use native.Mathlib.Nat.{le_refl, le_of_suc-le-suc}
use native.Mathlib.Omega.{arith}
use borrow.Author.Tests.{lt-ltb, ne_eqb, eqb-true}
use lib.Ieee.{Float}
use lib.ListN.{get_or, length, take, drop, length-map, length-take, length-drop}
use lib.Seq.{get_or-take, get_or-drop, ext_get_or}
use lib.Dec.{eqb, ltb}
use Rattle.memory.specs.rules.Lists.{table, upto, keep, occurs, count_if, total, index_from, insert_by, sort_by}
use Rattle.memory.specs.rules.Limits.{no_line}
use Rattle.memory.proofs.CountLaws.{occurs-table}
use Rattle.memory.proofs.PartLaws.{part-is-table}
use Rattle.memory.proofs.TableLaws.{table-ext}
use Rattle.memory.specs.rules.Rects.{height}
use Rattle.labelling.specs.rules.Components.{no_dots, box_of}
use Rattle.labelling.specs.rules.Labels.{Labelling}
use Rattle.labelling.specs.stages.Sizes.{HoldsSizes}
use Rattle.labelling.specs.declared.component.Component.{Component}
use Rattle.labelling.proofs.SizeLaws.{size-at}
use Rattle.params.specs.declared.LayoutParams.{LayoutParams}
use Rattle.sorting.specs.rules.Kinds.{glyph_kind}
use Rattle.sorting.specs.stages.Measures.{size_box}
use Rattle.sorting.proofs.SizedLaws.{size-box}
use Rattle.smoothing.specs.rules.Lines.{LabelledGlyph, labelled_glyphs, first_dot, SmoothedLine, smoothed_line, is_line, keys_at_most, kept_lines, line_number}
use Rattle.memory.specs.stages.Stored.{Stored}
use Rattle.smoothing.specs.stages.LineWords.{glyphs_of, kind_word, first_number, label_at, labels_at, smear_is_line, box_keys, smear_at_most, line_smears, OrderedLines, order_at, area_at, glyphs_among, own_glyphs, own_ink, own_heights, HoldsGlyphs, glyph_count, HoldsSmears}
use Rattle.memory.proofs.ListLaws.{Each, each-sort, keep_same, map-table}
use Rattle.memory.proofs.PlaceLaws.{count-length}
use Rattle.smoothing.proofs.OrderLaws.{line_at_most}
use Rattle.smoothing.proofs.SmearLaws.{kept_low, length-sort, smear-total, smear-trans}

-- Lists

pub keep-map : {A B : Type 0} (q : B → Bool) (f : A → B) (l : List A) → keep q (map f l) ≡ map f (keep (λ a. q (f a)) l)
unfolding keep
keep-map q f [] = refl
keep-map {A} {B} q f (a ∷ l) = go (q (f a)) (keep-map q f l)
  where
    go : (t : Bool) → keep q (map f l) ≡ map f (keep (λ b. q (f b)) l) → cond t (f a ∷ keep q (map f l)) (keep q (map f l)) ≡ map f (cond t (a ∷ keep (λ b. q (f b)) l) (keep (λ b. q (f b)) l))
    go true e = ap (λ (z : List B). f a ∷ z) e
    go false e = e

keep-keep : {A : Type 0} (p q : A → Bool) (l : List A) → keep q (keep p l) ≡ keep (λ a. p a && q a) l
unfolding keep
keep-keep p q [] = refl
keep-keep {A} p q (a ∷ l) = go (p a) (q a) refl (keep-keep p q l)
  where
    go : (t u : Bool) → q a ≡ u → keep q (keep p l) ≡ keep (λ b. p b && q b) l → keep q (cond t (a ∷ keep p l) (keep p l)) ≡ cond (t && u) (a ∷ keep (λ b. p b && q b) l) (keep (λ b. p b && q b) l)
    go true true e i = rw e (ap (λ (z : List A). a ∷ z) i)
    go true false e i = rw e i
    go false u e i = i

pub map-map : {A B C : Type 0} (f : A → B) (g : B → C) (l : List A) → map g (map f l) ≡ map (λ a. g (f a)) l
map-map f g [] = refl
map-map {A} {B} {C} f g (a ∷ l) = ap (λ (z : List C). g (f a) ∷ z) (map-map f g l)

map_each : {A B : Type 0} (P : A → Type 0) (f g : A → B) → ((a : A) → P a → f a ≡ g a) → (l : List A) → Each P l → map f l ≡ map g l
map_each P f g h [] e = refl
map_each P f g h (a ∷ l) (x, e) = λ i. h a x i ∷ map_each P f g h l e i

module _ {A B : Type 0} (P : A → Type 0) (f : A → B) (p : B → B → Bool) (q : A → A → Bool) (same : (a b : A) → P a → P b → p (f a) (f b) ≡ q a b) where
  insert-map : (a : A) (l : List A) → P a → Each P l → insert_by p (f a) (map f l) ≡ map f (insert_by q a l)
  unfolding insert_by
  insert-map a [] x e = refl
  insert-map a (b ∷ l) x (y, e) = go (q a b) refl (insert-map a l x e)
    where
      go : (t : Bool) → q a b ≡ t → insert_by p (f a) (map f l) ≡ map f (insert_by q a l)
          → cond (p (f a) (f b)) (f a ∷ f b ∷ map f l) (f b ∷ insert_by p (f a) (map f l)) ≡ map f (cond (q a b) (a ∷ b ∷ l) (b ∷ insert_by q a l))
      go true z i = rw (same a b x y, z)
      go false z i = rw (same a b x y, z) (ap (λ (w : List B). f b ∷ w) i)

  pub sort-map : (l : List A) → Each P l → sort_by p (map f l) ≡ map f (sort_by q l)
  unfolding sort_by
  sort-map [] e = refl
  sort-map (a ∷ l) (x, e) = ap (insert_by p (f a)) (sort-map l e) ∙ insert-map a (sort_by q l) x (each-sort P q l e)

pub upto-map : {A : Type 0} (f : ℕ → A) (n : ℕ) → map f (upto n) ≡ table f n
unfolding upto
upto-map f n = map-table f (λ i. i) n

map_at : (f : ℕ → ℕ) (l : List ℕ) (i : ℕ) → i < length l → get_or (map f l) i 0 ≡ f (get_or l i 0)
map_at f [] i h = absurd (omega arith)
map_at f (a ∷ l) zero h = refl
map_at f (a ∷ l) (suc i) h = map_at f l i (le_of_suc-le-suc h)

-- Components in scratch

pub held-area : (cs : List Component) (s : List ℕ) (at : ℕ) → HoldsSizes cs s at → (k : ℕ) → k < length cs → area_at s at k ≡ (get_or cs k no_dots).area
held-area cs s at held k low = ap (λ n. get_or s n 0) (let e : at + k * 5 ≡ at + 5 * k = omega arith in e) ∙ (size-at cs s at k held low).area

-- sizes stay where their words stay
pub held_kept : (cs : List Component) (s s' : List ℕ) (at : ℕ) → at + 5 * length cs ≤ length s → length s' ≡ length s
    → ((i : ℕ) → at ≤ i → i < at + 5 * length cs → get_or s' i 0 ≡ get_or s i 0) → HoldsSizes cs s at → HoldsSizes cs s' at
held_kept cs s s' at room len same held =
    part-is-table s' at (5 * length cs) 0 (omega arith)
    ∙ (table-ext (λ i. get_or s' (at + i) 0) (λ i. get_or s (at + i) 0) (5 * length cs) (λ i l. same (at + i) (omega arith) (omega arith))
    ∙ (sym (part-is-table s at (5 * length cs) 0 room) ∙ held))

-- Glyphs

-- what `label_glyphs` leaves
pub glyphs-held : (cs : List Component) (ks : List ℕ) (labels : ℕ → ℕ) (sizes kinds firsts numbers : ℕ) (s s' : List ℕ) → HoldsSizes cs s sizes → sizes + 5 * length cs ≤ kinds → kinds ≤ length s
    → ((k : ℕ) → k < length cs → get_or s (kinds + k) 0 ≡ get_or ks k 0) → ((k : ℕ) → k < length cs → get_or ks k 0 < 8)
    → ((k : ℕ) → k < length cs → get_or ks k 0 ≡ glyph_kind → (0 < labels k) × (first_number s firsts numbers k ≡ labels k))
    → Stored (λ k. kind_word (get_or s (kinds + k) 0) (first_number s firsts numbers k)) kinds (length cs) s s' → HoldsGlyphs cs ks labels sizes kinds s'
unfolding kind_word
glyphs-held cs ks labels sizes kinds firsts numbers s s' held before room stand known first r =
    record {
      held = held_kept cs s s' sizes (omega arith) r.within.len (λ i a b. r.within.before i (omega arith)) held;
      words = λ k l. r.each k l ∙ (ap (λ n. kind_word n (first_number s firsts numbers k)) (stand k l) ∙ go k l (eqb (get_or ks k 0) glyph_kind) refl);
      known = known;
      labelled = λ k l e. (first k l e).0;
    }
  where
    go : (k : ℕ) → k < length cs → (t : Bool) → eqb (get_or ks k 0) glyph_kind ≡ t → kind_word (get_or ks k 0) (first_number s firsts numbers k) ≡ kind_word (get_or ks k 0) (labels k)
    go k l true e = ap (kind_word (get_or ks k 0)) (first k l (eqb-true (get_or ks k 0) glyph_kind e)).1
    go k l false e = rw e

-- the glyphs of a page, with the labels of their first dots
pub labelled-glyphs : (rest : Labelling) (kinds : List ℕ) (smears : Labelling)
    → labelled_glyphs rest kinds smears ≡ glyphs_of rest.components kinds (λ k. get_or smears.labels (first_dot rest.labels (suc k)) 0)
unfolding labelled_glyphs glyphs_of
labelled-glyphs rest kinds smears = refl

abbrev pub glyph_of : List Component → (ℕ → ℕ) → ℕ → LabelledGlyph
glyph_of cs labels k = record { component = get_or cs k no_dots; label = labels k }

module _ (cs : List Component) (ks : List ℕ) (labels : ℕ → ℕ) (sizes kinds : ℕ) (s : List ℕ) (h : HoldsGlyphs cs ks labels sizes kinds s) where
  pub label_of : (k : ℕ) → k < length cs → label_at s kinds k ≡ cond (eqb (get_or ks k 0) glyph_kind) (labels k) 0
  unfolding kind_word
  label_of k l = ap (λ n. n / 8) (h.words k l) ∙ go (eqb (get_or ks k 0) glyph_kind) (h.known k l)
    where
      go : (t : Bool) → get_or ks k 0 < 8 → cond t (glyph_kind + 8 * labels k) (get_or ks k 0) / 8 ≡ cond t (labels k) 0
      go true b = omega arith
      go false b = omega arith

  is-glyph : (k : ℕ) → k < length cs → ltb 0 (label_at s kinds k) ≡ eqb (get_or ks k 0) glyph_kind
  is-glyph k l = ap (ltb 0) (label_of k l) ∙ go (eqb (get_or ks k 0) glyph_kind) refl
    where
      go : (t : Bool) → eqb (get_or ks k 0) glyph_kind ≡ t → ltb 0 (cond t (labels k) 0) ≡ t
      go true e = lt-ltb 0 (labels k) (h.labelled k l (eqb-true (get_or ks k 0) glyph_kind e))
      go false e = refl

  pub glyphs-are : glyphs_of cs ks labels ≡ map (glyph_of cs labels) (glyphs_among s kinds (length cs))
  unfolding glyphs_of
  glyphs-are = ap (map (glyph_of cs labels)) (sym (keep_same (λ k. ltb 0 (label_at s kinds k)) (λ k. eqb (get_or ks k 0) glyph_kind) (length cs) is-glyph))

  has-label : (t : ℕ) → 0 < t → (k : ℕ) → k < length cs → (eqb (get_or ks k 0) glyph_kind && eqb (labels k) t) ≡ eqb (label_at s kinds k) t
  has-label t p k l = go (eqb (get_or ks k 0) glyph_kind) ∙ ap (λ n. eqb n t) (sym (label_of k l))
    where
      go : (b : Bool) → (b && eqb (labels k) t) ≡ eqb (cond b (labels k) 0) t
      go true = refl
      go false = sym (ne_eqb 0 t (λ e. omega arith))

  pub own-are : (t : ℕ) → 0 < t → keep (λ (g : LabelledGlyph). eqb g.label t) (glyphs_of cs ks labels) ≡ map (glyph_of cs labels) (own_glyphs s kinds (length cs) t)
  unfolding glyphs_of
  own-are t p =
      keep-map (λ (g : LabelledGlyph). eqb g.label t) (glyph_of cs labels) (keep (λ k. eqb (get_or ks k 0) glyph_kind) (upto (length cs)))
      ∙ ap (map (glyph_of cs labels))
      (keep-keep (λ k. eqb (get_or ks k 0) glyph_kind) (λ k. eqb (labels k) t) (upto (length cs))
      ∙ keep_same (λ k. eqb (get_or ks k 0) glyph_kind && eqb (labels k) t) (λ k. eqb (label_at s kinds k) t) (length cs) (has-label t p))

  own-low : (t : ℕ) → Each (λ k. k < length cs) (own_glyphs s kinds (length cs) t)
  own-low t = kept_low (λ k. eqb (label_at s kinds k) t) (length cs) (length cs) (le_refl (length cs))

  -- what `count_glyphs` counts
  pub counts-are : (t : ℕ) → 0 < t → occurs t (labels_at s kinds (length cs)) ≡ glyph_count (glyphs_of cs ks labels) t
  counts-are t p =
      occurs-table t (label_at s kinds) (length cs)
      ∙ (sym (count-length (λ k. eqb (label_at s kinds k) t) (length cs))
      ∙ (sym (length-map (own_glyphs s kinds (length cs) t) (glyph_of cs labels)) ∙ ap length (sym (own-are t p))))

  pub own-count : (t : ℕ) → 0 < t → length (own_glyphs s kinds (length cs) t) ≡ glyph_count (glyphs_of cs ks labels) t
  own-count t p = sym (length-map (own_glyphs s kinds (length cs) t) (glyph_of cs labels)) ∙ ap length (sym (own-are t p))

  -- ink and heights of the glyphs of a line
  pub ink_is : (t : ℕ) → 0 < t → own_ink s sizes kinds (length cs) t ≡ total (map (λ (g : LabelledGlyph). g.component.area) (keep (λ (g : LabelledGlyph). eqb g.label t) (glyphs_of cs ks labels)))
  ink_is t p =
      ap total
      (map_each (λ k. k < length cs) (area_at s sizes) (λ k. (get_or cs k no_dots).area) (λ k l. held-area cs s sizes h.held k l) (own_glyphs s kinds (length cs) t) (own-low t)
      ∙ (sym (map-map (glyph_of cs labels) (λ (g : LabelledGlyph). g.component.area) (own_glyphs s kinds (length cs) t)) ∙ ap (map (λ (g : LabelledGlyph). g.component.area)) (sym (own-are t p))))

  pub heights-are : (t : ℕ) → 0 < t
      → own_heights s sizes kinds (length cs) t ≡ map (λ (g : LabelledGlyph). height (box_of g.component)) (keep (λ (g : LabelledGlyph). eqb g.label t) (glyphs_of cs ks labels))
  heights-are t p =
      map_each (λ k. k < length cs) (λ k. height (size_box s sizes k)) (λ k. height (box_of (get_or cs k no_dots))) (λ k l. ap height (size-box cs s sizes h.held k l)) (own_glyphs s kinds (length cs) t) (own-low t)
      ∙ (sym (map-map (glyph_of cs labels) (λ (g : LabelledGlyph). height (box_of g.component)) (own_glyphs s kinds (length cs) t))
      ∙ ap (map (λ (g : LabelledGlyph). height (box_of g.component))) (sym (own-are t p)))

-- Lines

abbrev pub line_of : List LabelledGlyph → List Component → ℕ → SmoothedLine
line_of gs smears t = smoothed_line gs (get_or smears t no_dots) (suc t)

module _ (p : LayoutParams) (unit : Float) (gs : List LabelledGlyph) (smears : List Component) (smoothed glyphs : ℕ) (s : List ℕ) (h : HoldsSmears gs smears smoothed glyphs s) where
  smear-box : (t : ℕ) → t < length smears → (line_of gs smears t).bbox ≡ size_box s smoothed t
  unfolding smoothed_line
  smear-box t l = sym (size-box smears s smoothed h.held t l)

  line-test : (t : ℕ) → t < length smears → smear_is_line p unit s smoothed glyphs t ≡ is_line p unit (line_of gs smears t).glyphs (height (line_of gs smears t).bbox)
  unfolding smoothed_line
  line-test t l = λ i. is_line p unit (h.counts t l i) (height (size-box smears s smoothed h.held t l i))

  line-order : (a b : ℕ) → a < length smears → b < length smears → line_at_most (line_of gs smears a) (line_of gs smears b) ≡ smear_at_most s smoothed a b
  unfolding smear_at_most smoothed_line
  line-order a b l m =
      λ i. keys_at_most (box_keys (smear-box a l i) a) (box_keys (smear-box b m i) b)

  -- the lines in their order
  pub lines_are : kept_lines p unit gs smears ≡ map (line_of gs smears) (line_smears p unit s smoothed glyphs (length smears))
  unfolding kept_lines line_smears
  lines_are =
      ap (λ (l : List SmoothedLine). sort_by line_at_most (keep (λ (l : SmoothedLine). is_line p unit l.glyphs (height l.bbox)) l)) tables
      ∙ (ap (sort_by line_at_most)
      (keep-map (λ (l : SmoothedLine). is_line p unit l.glyphs (height l.bbox)) (line_of gs smears) (upto (length smears))
      ∙ ap (map (line_of gs smears)) (sym (keep_same (smear_is_line p unit s smoothed glyphs) (λ t. is_line p unit (line_of gs smears t).glyphs (height (line_of gs smears t).bbox)) (length smears) line-test)))
      ∙ sort-map (λ t. t < length smears) (line_of gs smears) line_at_most (smear_at_most s smoothed) line-order (keep (smear_is_line p unit s smoothed glyphs) (upto (length smears)))
      (kept_low (smear_is_line p unit s smoothed glyphs) (length smears) (length smears) (le_refl (length smears))))
    where
      tables : table (line_of gs smears) (length smears) ≡ map (line_of gs smears) (upto (length smears))
      tables = sym (upto-map (line_of gs smears) (length smears))

  -- what `count_lines` answers
  pub lines-count : count_if (smear_is_line p unit s smoothed glyphs) (length smears) ≡ length (kept_lines p unit gs smears)
  unfolding line_smears
  lines-count =
      sym (ap length lines_are
      ∙ (length-map (line_smears p unit s smoothed glyphs (length smears)) (line_of gs smears)
      ∙ (length-sort (smear_at_most s smoothed) (smear-total s smoothed) (smear-trans s smoothed) (keep (smear_is_line p unit s smoothed glyphs) (upto (length smears)))
      ∙ count-length (smear_is_line p unit s smoothed glyphs) (length smears))))

  -- the labels that `order_lines` writes
  pub labels-are : map (λ (l : SmoothedLine). l.label) (kept_lines p unit gs smears) ≡ map suc (line_smears p unit s smoothed glyphs (length smears))
  unfolding smoothed_line
  labels-are = ap (map (λ (l : SmoothedLine). l.label)) lines_are ∙ map-map (line_of gs smears) (λ (l : SmoothedLine). l.label) (line_smears p unit s smoothed glyphs (length smears))

  pub order_is : (order : ℕ) (s' : List ℕ) (r : ℕ) → order + r ≤ length s' → OrderedLines (line_smears p unit s smoothed glyphs (length smears)) order s s' r
      → take r (drop order s') ≡ map (λ (l : SmoothedLine). l.label) (kept_lines p unit gs smears)
  order_is order s' r room o =
      let ls = line_smears p unit s smoothed glyphs (length smears) in
      let n = length-map ls suc in
      let c = o.count in
      let len : length (take r (drop order s')) ≡ r = length-take r (drop order s') ∙ (let a = length-drop order s' in omega arith) in
      ext_get_or 0 (take r (drop order s')) (map suc ls) (len ∙ (c ∙ sym n))
      (λ i l. (let q : i < r = omega arith in get_or-take r (drop order s') i 0 q ∙ (get_or-drop order s' i 0 ∙ (o.words.each i q ∙ sym (map_at suc ls i (omega arith))))))
      ∙ sym labels-are

-- The numbers of labels

pub numbers-are : (ls : List SmoothedLine) (order n numbers smears : ℕ) (s s' : List ℕ) → order + n ≤ length s → take n (drop order s) ≡ map (λ (l : SmoothedLine). l.label) ls
    → Stored (λ t. index_from no_line 0 (suc t) (order_at s order n)) numbers smears s s' → (t : ℕ) → t < smears → get_or s' (numbers + t) 0 ≡ line_number ls (suc t)
unfolding line_number
numbers-are ls order n numbers smears s s' room e r t l = r.each t l ∙ ap (index_from no_line 0 (suc t)) (sym (part-is-table s order n 0 room) ∙ e)

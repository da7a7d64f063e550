-- What the readings give for the words of a layout is what the rules give for the layout.
use mathlib.Core.Path.{◌≡◌, refl, sym, ap, ◌∙◌}
use mathlib.Core.Bool.{cond}
use mathlib.Core.List.{List, [], ◌∷◌, ◌++◌, map}
use Prim.Native.Nat.{ℕ, zero, suc, ◌+◌, ◌*◌, ◌<◌}
use native.Mathlib.Nat.{not-suc-le-zero}
use native.Mathlib.Omega.{arith}
use lib.Dec.{eqb}
use lib.Ieee.{Float}
use lib.ListN.{length, get_or, drop, length-map, get_or-map}
use lib.Seq.{ext_get_or}
use Rattle.memory.specs.rules.Floats.{float_at}
use Rattle.memory.specs.rules.Lists.{table, upto}
use Rattle.memory.specs.rules.Records.{encoded, fields}
use Rattle.memory.proofs.TableLaws.{length-table, get_or-table, table-ext}
use Rattle.memory.specs.declared.rect.Rect.{Rect}
use Rattle.params.specs.declared.LayoutParams.{LayoutParams}
use Rattle.levelling.specs.rules.Frames.{Frame}
use Rattle.sorting.specs.rules.Units.{median, unit_value}
use Rattle.sorting.specs.declared.Unit.{Unit}
use Rattle.sorting.specs.declared.Unit.TheVariants.{Measured, Assumed}
use Rattle.grouping.specs.rules.Blocks.{no_rect, block_firsts, block_number, blocks_of}
use Rattle.segmenting.specs.rules.Layouts.{Layout, layout, text_line}
use Rattle.smoothing.specs.rules.Lines.{TextLine, SmoothedLine}
use Rattle.grouping.specs.rules.HeldLines.{centre_at, block_at, held_lines, pitches_below}
use Rattle.grouping.specs.rules.Readings.{differences, pitches, twenty_of, summarized}
use Rattle.segmenting.specs.rules.LayoutReadings.{pitches_of, twenty_line_measure, summary, totals_of}
use Rattle.smoothing.specs.rules.LineRecords.{line_record}
use Rattle.memory.proofs.ListLaws.{Each, keep_same, map-table}
use Rattle.grouping.proofs.PitchLaws.{pitches-by-number}
use Rattle.grouping.proofs.TogetherLaws.{block-low, block-idem}
use Rattle.segmenting.specs.rules.Figures.{figures_of, figure_words, measured_word}
use Rattle.smoothing.specs.stages.Segments as segments
use Rattle.judging.specs.rules.Views.{view_of_layout}
use Rattle.store.specs.rules.Readings.{figures_told, pitches_held, summary_held, twenty_held}
use Rattle.store.proofs.LayoutLaws.{boxes_in, lines_are, blocks-are, lines_long}
use Rattle.store.proofs.TestLaws.{word_of, each-kept, each-upto}
use Rattle.store.proofs.GenuineLaws.{UnitFine, float-words}

pub figures-told : (l : Layout) → figures_told (figure_words (figures_of l)) ≡ figure_words (figures_of l)
unfolding figure_words
figures-told l = ap (λ k. k ∷ drop 1 (figure_words (figures_of l))) (go l.unit)
  where
    go : (u : Unit) → cond (eqb (measured_word u) 0) 0 1 ≡ measured_word u
    go (Measured x) = refl
    go (Assumed x) = refl

mapped_at : {A C : Type 0} (f : A → C) (l : List A) (i : ℕ) (d : A) (e : C) → i < length l → get_or (map f l) i e ≡ f (get_or l i d)
mapped_at f [] i d e h = absurd (not-suc-le-zero h)
mapped_at f (x ∷ l) zero d e h = refl
mapped_at f (x ∷ l) (suc i) d e h = mapped_at f l i d e (omega arith)

-- ---- pitches

map_each : (f g : ℕ → ℕ) (n : ℕ) (l : List ℕ) → ((i : ℕ) → i < n → f i ≡ g i) → Each (λ i. i < n) l → map f l ≡ map g l
map_each f g n [] h e = refl
map_each f g n (i ∷ l) h (x, e) = (λ t. h i x t ∷ map_each f g n l h e t)

pitches-ext : (c c' k k' : ℕ → ℕ) (n b : ℕ) → ((i : ℕ) → i < n → c i ≡ c' i) → ((i : ℕ) → i < n → k i ≡ k' i) → pitches_below c k n b ≡ pitches_below c' k' n b
unfolding pitches_below
pitches-ext c c' k k' n zero hc hk = refl
pitches-ext c c' k k' n (suc b) hc hk =
    let own : held_lines k b n ≡ held_lines k' b n = keep_same (λ i. eqb (k i) b) (λ i. eqb (k' i) b) n (λ i l. ap (λ z. eqb z b) (hk i l)) in
    let e : differences (map c (held_lines k b n)) ≡ differences (map c' (held_lines k' b n)) =
    ap differences (map_each c c' n (held_lines k b n) hc (each-kept (λ i. i < n) (λ i. eqb (k i) b) (upto n) (each-upto n)) ∙ ap (map c') own) in
    λ t. pitches-ext c c' k k' n b hc hk t ++ e t

module _ (p : LayoutParams) (w h : ℕ) (m : List ℕ) where
  abbrev L : List SmoothedLine
  L = segments.lines_in p w h m

  abbrev B : List Rect
  B = boxes_in p w h m

  abbrev fs : List ℕ
  fs = block_firsts p B

  lines-count : length (layout p w h m).lines ≡ length B
  lines-count = lines_long p w h m ∙ sym (length-map (segments.lines_in p w h m) (λ (l : SmoothedLine). l.bbox))

  abbrev no_text : TextLine
  no_text = record { bbox = no_rect; glyphs = 0; ink_area = 0; glyph_height = 0; block = 0 }

  line_at : (i : ℕ) → i < length (layout p w h m).lines → get_or (layout p w h m).lines i no_text ≡ text_line L fs i
  line_at i l =
      ap (λ (z : List TextLine). get_or z i no_text) (lines_are p w h m)
      ∙ get_or-table (text_line L fs) (length L) i no_text (let e = lines_long p w h m in omega arith)

  box-at : (i : ℕ) → i < length (layout p w h m).lines → (text_line L fs i).bbox ≡ get_or B i no_rect
  unfolding text_line
  box-at i l = sym (mapped_at (λ (l : SmoothedLine). l.bbox) (segments.lines_in p w h m) i _ no_rect (let e = lines_long p w h m in omega arith))

  -- the words of the lines
  centre-at : (i : ℕ) → i < length (layout p w h m).lines → centre_at (encoded line_record (layout p w h m).lines) i ≡ (get_or B i no_rect).y0 + (get_or B i no_rect).y1
  centre-at i l =
      let r : (get_or (layout p w h m).lines i no_text).bbox ≡ get_or B i no_rect = ap (λ (t : TextLine). t.bbox) (line_at i l) ∙ box-at i l in
      (λ t. word_of line_record 8 (λ _. refl) (layout p w h m).lines i 1 no_text l (omega arith) t + word_of line_record 8 (λ _. refl) (layout p w h m).lines i 3 no_text l (omega arith) t)
      ∙ (λ t. (r t).y0 + (r t).y1)

  block-at : (i : ℕ) → i < length (layout p w h m).lines → block_at (encoded line_record (layout p w h m).lines) i ≡ block_number fs i
  block-at i l =
      word_of line_record 8 (λ _. refl) (layout p w h m).lines i 7 no_text l (omega arith) ∙ (ap (λ (t : TextLine). t.block) (line_at i l) ∙ (unfold text_line in refl))

  boxes-are : map (λ (t : TextLine). t.bbox) (layout p w h m).lines ≡ B
  boxes-are =
      ap (map (λ (t : TextLine). t.bbox)) (lines_are p w h m)
      ∙ (map-table (λ (t : TextLine). t.bbox) (text_line L fs) (length L)
      ∙ (table-ext (λ i. (text_line L fs i).bbox) (λ i. get_or B i no_rect) (length L) (λ i l. box-at i (let e = long in omega arith))
      ∙ (ap (table (λ i. get_or B i no_rect)) (sym long ∙ lines-count) ∙ sym (as-table B))))
    where
      long : length (layout p w h m).lines ≡ length L
      long = lines_long p w h m

      as-table : (l : List Rect) → l ≡ table (λ i. get_or l i no_rect) (length l)
      as-table l = ext_get_or no_rect l (table (λ i. get_or l i no_rect) (length l)) (sym (length-table _ (length l))) (λ i h. sym (get_or-table _ (length l) i no_rect h))

  pitches-are : (f : Frame) (skew : Float) → pitches_held (view_of_layout f skew (layout p w h m)) ≡ pitches_of (layout p w h m)
  unfolding view_of_layout figure_words
  pitches-are f skew =
      let l = layout p w h m in
      let n = length l.lines in
      pitches-ext (centre_at (encoded line_record l.lines)) (λ i. (get_or B i no_rect).y0 + (get_or B i no_rect).y1) (block_at (encoded line_record l.lines)) (block_number fs) n (length l.blocks) centre-at block-at
      ∙ ((λ t. pitches_below (λ i. (get_or B i no_rect).y0 + (get_or B i no_rect).y1) (block_number fs) (lines-count t) (length (blocks-by t)))
      ∙ (sym (pitches-by-number B (block_firsts p B) (block-low p B) (block-idem p B))
      ∙ (λ t. pitches (sym boxes-are t) (sym blocks-by t))))
    where
      blocks-by : (layout p w h m).blocks ≡ blocks_of B fs
      blocks-by = blocks-are p w h m

  pub twenty-genuine : (f : Frame) (skew : Float) → twenty_held (view_of_layout f skew (layout p w h m)) ≡ twenty_line_measure (layout p w h m)
  unfolding twenty_held twenty_line_measure
  twenty-genuine f skew = ap twenty_of (pitches-are f skew)

  -- ---- `summarize`

  heights-are : fields 8 6 (encoded line_record (layout p w h m).lines) (length (layout p w h m).lines) ≡ map (λ (t : TextLine). t.glyph_height) (layout p w h m).lines
  heights-are =
      let l = (layout p w h m).lines in
      ext_get_or 0 (fields 8 6 (encoded line_record l) (length l)) (map (λ (t : TextLine). t.glyph_height) l)
      (length-table _ (length l) ∙ sym (length-map l (λ (t : TextLine). t.glyph_height)))
      (λ i o.
      let k : i < length l = (let e = length-table (λ i. get_or (encoded line_record l) (i * 8 + 6) 0) (length l) in omega arith) in
      get_or-table (λ i. get_or (encoded line_record l) (i * 8 + 6) 0) (length l) i 0 k
      ∙ (word_of line_record 8 (λ _. refl) l i 6 no_text k (omega arith) ∙ sym (get_or-map (λ (t : TextLine). t.glyph_height) l i no_text)))

  unit-word : (u : Unit) → (layout p w h m).unit ≡ u → UnitFine u → float_at (figure_words (figures_of (layout p w h m))) 1 ≡ unit_value (layout p w h m).unit
  unfolding figure_words
  unit-word (Measured x) e (q, F) = rw e (float-words x F)
  unit-word (Assumed x) e (q, F) = rw e (float-words x F)

  pub summary-genuine : (f : Frame) (skew : Float) → UnitFine (layout p w h m).unit → summary_held (view_of_layout f skew (layout p w h m)) ≡ summary f skew (layout p w h m)
  unfolding summary_held summary view_of_layout figure_words
  summary-genuine f skew U =
      let l = layout p w h m in
      (λ t. summarized (unit-word l.unit refl U t) skew f.w f.h (totals_of l) (median (pitches-are f skew t)) (median (heights-are t)))

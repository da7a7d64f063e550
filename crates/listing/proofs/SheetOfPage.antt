-- The sheet of the words that a segmentation leaves is the sheet of its page (specs/rules/Pages).
use mathlib.Core.Path.{◌≡◌, refl, sym, ap, ◌∙◌}
use mathlib.Core.List.{List, [], ◌∷◌, ◌++◌, map, append-nil, append_assoc}
use Prim.Native.Nat.{ℕ, zero, suc, ◌+◌, ◌*◌, ◌/◌, ◌%◌, ◌^◌, ◌<◌}
use native.Mathlib.Nat.{suc-mul, le_refl, div-add-mod'}
use native.Mathlib.Omega.{arith}
use lib.Ieee.{Float, binary64, to_bits}
use lib.ListN.{length, get_or, get_or-append}
use lib.Seq.{get_or-append-add}
use Rattle.memory.specs.rules.Records.{encoded}
use Rattle.memory.specs.rules.Words.{word_at}
use Rattle.memory.specs.declared.rect.Rect.{Rect}
use Rattle.sorting.specs.rules.Units.{unit_value}
use Rattle.grouping.specs.rules.Blocks.{Block}
use Rattle.params.specs.declared.LayoutParams.{LayoutParams}
use Rattle.segmenting.specs.rules.Layouts.{Layout, Page, layout, page}
use Rattle.smoothing.specs.rules.Lines.{TextLine, GlyphBox}
use Rattle.levelling.specs.rules.Planes.{Levelling, levelling}
use Rattle.grouping.specs.declared.column.Column.{Column}
use Rattle.judging.specs.rules.Views.{view_of_layout, rule_count, graphic_count, glyph_count, line_count, block_count, column_count, ink_dots_at}
use Rattle.listing.specs.rules.Pages.{figures, head_figures, line_figures, block_figures, glyph_figures, column_figures, dot_figures, corners, edition, numbers_text, figure_text, figures_text, page_sheet}
use Rattle.listing.specs.rules.Sheets.{field_count, field_digits, word_from, entry_text, entry_from, entry_at, entries_text, head_text, sheet_text, sheet_held}
use Rattle.smoothing.specs.rules.LineRecords.{line_record, glyph_record}
use Rattle.grouping.specs.rules.BlockRecords.{block_record, column_record}
use Rattle.memory.specs.rules.Rects.{box_words}
use Rattle.segmenting.specs.rules.Figures.{figures_of, figure_words}
use Rattle.listing.specs.rules.Digits.{digit_of, hex, joined, line_feed}

-- ---- texts one after the other, from the first on
joined-ext : (f g : ℕ → List ℕ) (n : ℕ) → ((i : ℕ) → i < n → f i ≡ g i) → joined f n ≡ joined g n
unfolding joined
joined-ext f g zero h = refl
joined-ext f g (suc n) h = λ k. joined-ext f g n (λ i l. h i (omega arith)) k ++ h n (le_refl (suc n)) k

joined-first : (f : ℕ → List ℕ) (n : ℕ) → joined f (suc n) ≡ f 0 ++ joined (λ i. f (suc i)) n
unfolding joined
joined-first f zero = sym (append-nil (f 0))
joined-first f (suc n) = ap (λ t. t ++ f (suc n)) (joined-first f n) ∙ append_assoc (f 0) (joined (λ i. f (suc i)) n) (f (suc n))

entry-ext : (kind : ℕ) (a b : ℕ → ℕ) → ((j : ℕ) → j < field_count kind → a j ≡ b j) → entry_text kind a ≡ entry_text kind b
unfolding entry_text
entry-ext kind a b h =
    ap (λ t. hex 2 kind ++ t ++ (line_feed ∷ []))
    (joined-ext (λ j. hex (field_digits kind j) (a j)) (λ j. hex (field_digits kind j) (b j)) (field_count kind) (λ j l. ap (hex (field_digits kind j)) (h j l)))

-- a text for each, one after the other
flat : {A : Type 0} → (A → List ℕ) → List A → List ℕ
flat h [] = []
flat h (a ∷ l) = h a ++ flat h l

-- the entry of a record
abbrev entry_of : ℕ → List ℕ → List ℕ
entry_of kind words = entry_text kind (λ j. get_or words j 0)

module _ {A : Type 0} (kind : ℕ) (words : A → List ℕ) (each : (a : A) → length (words a) ≡ field_count kind) where
  entries-encoded : (l : List A) → entries_text kind (encoded words l) (length l) ≡ flat (λ a. entry_of kind (words a)) l
  unfolding entries_text encoded flat joined
  entries-encoded [] = refl
  entries-encoded (a ∷ l) =
      let s = words a ++ encoded words l in
      let k = each a in
      joined-first (entry_at kind s) (length l)
      ∙ (λ i. first i ++ (rest ∙ entries-encoded l) i)
    where
      first : entry_at kind (words a ++ encoded words l) 0 ≡ entry_of kind (words a)
      first =
          entry-ext kind (word_from (words a ++ encoded words l) (0 * field_count kind)) (λ j. get_or (words a) j 0)
          (λ j h. (let e : 0 * field_count kind + j ≡ j = omega arith in rw e (let k = each a in get_or-append (words a) (encoded words l) 0 j (omega arith))))

      rest : joined (λ i. entry_at kind (words a ++ encoded words l) (suc i)) (length l) ≡ joined (entry_at kind (encoded words l)) (length l)
      rest =
          joined-ext (λ i. entry_at kind (words a ++ encoded words l) (suc i)) (entry_at kind (encoded words l)) (length l)
          (λ i h. entry-ext kind (word_from (words a ++ encoded words l) (suc i * field_count kind)) (word_from (encoded words l) (i * field_count kind))
          (λ j b.
          (let k = each a in
          let e : suc i * field_count kind + j ≡ length (words a) + (i * field_count kind + j) = (let g = suc-mul i (field_count kind) in omega arith) in
          rw e (get_or-append-add (words a) (encoded words l) (i * field_count kind + j) 0))))

-- ---- figures
figures-append : (a b : List (List ℕ)) → figures_text (a ++ b) ≡ figures_text a ++ figures_text b
unfolding figures_text
figures-append [] b = refl
figures-append (l ∷ a) b = ap (λ t. figure_text l ++ t) (figures-append a b) ∙ sym (append_assoc (figure_text l) (figures_text a) (figures_text b))

figures-map : {A : Type 0} (f : A → List ℕ) (g : A → List ℕ) → ((a : A) → g a ≡ figure_text (f a)) → (l : List A) → flat g l ≡ figures_text (map f l)
unfolding figures_text flat
figures-map f g h [] = refl
figures-map f g h (a ∷ l) = λ i. h a i ++ figures-map f g h l i

line-text : (t : TextLine) → entry_of 1 (line_record t) ≡ figure_text (line_figures t)
unfolding entry_text joined hex numbers_text figure_text line_figures
line-text t = refl

block-text : (b : Block) → entry_of 2 (block_record b) ≡ figure_text (block_figures b)
unfolding entry_text joined hex numbers_text figure_text block_figures
block-text b = refl

rule-text : (r : Rect) → entry_of 3 (box_words r) ≡ figure_text (3 ∷ corners r)
unfolding entry_text joined hex numbers_text figure_text
rule-text r = refl

graphic-text : (r : Rect) → entry_of 4 (box_words r) ≡ figure_text (4 ∷ corners r)
unfolding entry_text joined hex numbers_text figure_text
graphic-text r = refl

glyph-text : (g : GlyphBox) → entry_of 5 (glyph_record g) ≡ figure_text (glyph_figures g)
unfolding entry_text joined hex numbers_text figure_text glyph_figures
glyph-text g = refl

column-text : (c : Column) → entry_of 6 (column_record c) ≡ figure_text (column_figures c)
unfolding entry_text joined hex numbers_text figure_text column_figures
column-text c = refl

-- the figures' words tell of the layout: its unit, the lengths of its lists, its dots
record Tells (l : Layout) (words : List ℕ) : Type 0 where
  pub unit : to_bits binary64 (unit_value l.unit) ≡ word_at words 2 * 2 ^ 32 + word_at words 1
  pub low : word_at words 1 < 2 ^ 32
  pub lines : line_count words ≡ length l.lines
  pub blocks : block_count words ≡ length l.blocks
  pub rules : rule_count words ≡ length l.rules
  pub graphics : graphic_count words ≡ length l.graphics
  pub glyphs : glyph_count words ≡ length l.glyphs
  pub columns : column_count words ≡ length l.columns
  pub dots : dot_figures l.ink_pixels l.counts ≡ 7 ∷ word_at words 9 ∷ word_at words 10 ∷ word_at words 11 ∷ word_at words 12 ∷ word_at words 13 ∷ word_at words 14 ∷ []

-- sixteen digits are the eight of the high word and the eight of the low one
two-words : (high low : ℕ) → low < 2 ^ 32 → hex 8 high ++ hex 8 low ≡ hex 16 (high * 2 ^ 32 + low)
unfolding hex
two-words high low h = λ i.
    digit_of (d15 i) ∷ digit_of (d14 i) ∷ digit_of (d13 i) ∷ digit_of (d12 i) ∷ digit_of (d11 i) ∷ digit_of (d10 i) ∷ digit_of (d9 i) ∷ digit_of (d8 i)
    ∷ digit_of (d7 i) ∷ digit_of (d6 i) ∷ digit_of (d5 i) ∷ digit_of (d4 i) ∷ digit_of (d3 i) ∷ digit_of (d2 i) ∷ digit_of (d1 i) ∷ digit_of (d0 i) ∷ []
  where
    d15 : high / 16 ^ 7 % 16 ≡ (high * 2 ^ 32 + low) / 16 ^ 15 % 16
    d15 = omega arith

    d14 : high / 16 ^ 6 % 16 ≡ (high * 2 ^ 32 + low) / 16 ^ 14 % 16
    d14 = omega arith

    d13 : high / 16 ^ 5 % 16 ≡ (high * 2 ^ 32 + low) / 16 ^ 13 % 16
    d13 = omega arith

    d12 : high / 16 ^ 4 % 16 ≡ (high * 2 ^ 32 + low) / 16 ^ 12 % 16
    d12 = omega arith

    d11 : high / 16 ^ 3 % 16 ≡ (high * 2 ^ 32 + low) / 16 ^ 11 % 16
    d11 = omega arith

    d10 : high / 16 ^ 2 % 16 ≡ (high * 2 ^ 32 + low) / 16 ^ 10 % 16
    d10 = omega arith

    d9 : high / 16 ^ 1 % 16 ≡ (high * 2 ^ 32 + low) / 16 ^ 9 % 16
    d9 = omega arith

    d8 : high / 16 ^ 0 % 16 ≡ (high * 2 ^ 32 + low) / 16 ^ 8 % 16
    d8 = omega arith

    d7 : low / 16 ^ 7 % 16 ≡ (high * 2 ^ 32 + low) / 16 ^ 7 % 16
    d7 = omega arith

    d6 : low / 16 ^ 6 % 16 ≡ (high * 2 ^ 32 + low) / 16 ^ 6 % 16
    d6 = omega arith

    d5 : low / 16 ^ 5 % 16 ≡ (high * 2 ^ 32 + low) / 16 ^ 5 % 16
    d5 = omega arith

    d4 : low / 16 ^ 4 % 16 ≡ (high * 2 ^ 32 + low) / 16 ^ 4 % 16
    d4 = omega arith

    d3 : low / 16 ^ 3 % 16 ≡ (high * 2 ^ 32 + low) / 16 ^ 3 % 16
    d3 = omega arith

    d2 : low / 16 ^ 2 % 16 ≡ (high * 2 ^ 32 + low) / 16 ^ 2 % 16
    d2 = omega arith

    d1 : low / 16 ^ 1 % 16 ≡ (high * 2 ^ 32 + low) / 16 ^ 1 % 16
    d1 = omega arith

    d0 : low / 16 ^ 0 % 16 ≡ (high * 2 ^ 32 + low) / 16 ^ 0 % 16
    d0 = omega arith

-- ---- the whole sheet
module _ (p : Page) (words : List ℕ) (T : Tells p.layout words) where
  head-is : head_text edition p.levelled.frame.w p.levelled.frame.h p.levelled.frame.page_w p.levelled.frame.page_h words ≡ figure_text (head_figures p)
  unfolding entry_text joined hex numbers_text figure_text head_figures
  head-is =
      let f = p.levelled.frame in
      ap (λ t. hex 2 0 ++ hex 2 edition ++ hex 4 f.w ++ hex 4 f.h ++ hex 4 f.page_w ++ hex 4 f.page_h ++ t ++ (line_feed ∷ []))
      (two-words (word_at words 2) (word_at words 1) T.low ∙ ap (hex 16) (sym T.unit))

  dots_is : entry_from 7 words ink_dots_at ≡ figure_text (dot_figures p.layout.ink_pixels p.layout.counts)
  unfolding entry_text joined hex numbers_text figure_text
  dots_is = ap figure_text (sym T.dots)

  list-is : {A : Type 0} (kind : ℕ) (r f : A → List ℕ) (l : List A) (n : ℕ) → ((a : A) → length (r a) ≡ field_count kind) → ((a : A) → entry_of kind (r a) ≡ figure_text (f a)) → n ≡ length l
      → entries_text kind (encoded r l) n ≡ figures_text (map f l)
  list-is kind r f l n each text e = ap (entries_text kind (encoded r l)) e ∙ (entries-encoded kind r each l ∙ figures-map f (λ a. entry_of kind (r a)) text l)

  -- the words of a layout have the text of its figures
  words-have-text :
      sheet_text edition p.levelled.frame.w p.levelled.frame.h p.levelled.frame.page_w p.levelled.frame.page_h words
      (encoded line_record p.layout.lines) (encoded block_record p.layout.blocks) (encoded box_words p.layout.rules)
      (encoded box_words p.layout.graphics) (encoded glyph_record p.layout.glyphs) (encoded column_record p.layout.columns)
      ≡ figures_text (figures p)
  unfolding sheet_text figures figures_text
  words-have-text =
      let l = p.layout in
      (λ i.
      (head-is ∙ sym (append-nil (figure_text (head_figures p)))) i
      ++ list-is 1 line_record line_figures l.lines (line_count words) (λ a. refl) line-text T.lines i
      ++ list-is 2 block_record block_figures l.blocks (block_count words) (λ a. refl) block-text T.blocks i
      ++ list-is 3 box_words (λ (r : Rect). 3 ∷ corners r) l.rules (rule_count words) (λ a. refl) rule-text T.rules i
      ++ list-is 4 box_words (λ (r : Rect). 4 ∷ corners r) l.graphics (graphic_count words) (λ a. refl) graphic-text T.graphics i
      ++ list-is 5 glyph_record glyph_figures l.glyphs (glyph_count words) (λ a. refl) glyph-text T.glyphs i
      ++ list-is 6 column_record column_figures l.columns (column_count words) (λ a. refl) column-text T.columns i
      ++ (dots_is ∙ sym (append-nil (figure_text (dot_figures l.ink_pixels l.counts)))) i)
      ∙ sym
      (eight (head_figures p ∷ []) (map line_figures l.lines) (map block_figures l.blocks) (map (λ (r : Rect). 3 ∷ corners r) l.rules)
      (map (λ (r : Rect). 4 ∷ corners r) l.graphics) (map glyph_figures l.glyphs) (map column_figures l.columns) (dot_figures l.ink_pixels l.counts ∷ []))
    where
      eight : (a b c d e f g h : List (List ℕ))
          → figures_text (a ++ b ++ c ++ d ++ e ++ f ++ g ++ h)
          ≡ figures_text a ++ figures_text b ++ figures_text c ++ figures_text d ++ figures_text e ++ figures_text f ++ figures_text g ++ figures_text h
      eight a b c d e f g h = simp figures-append

-- ---- the figures' words
tells : (l : Layout) → Tells l (figure_words (figures_of l))
unfolding figure_words dot_figures
tells l =
    let b = to_bits binary64 (unit_value l.unit) in
    record {
      unit = sym (div-add-mod' b (2 ^ 32));
      low = (let z : b % 4294967296 < 4294967296 = omega arith in z);
      lines = refl;
      blocks = refl;
      rules = refl;
      graphics = refl;
      glyphs = refl;
      columns = refl;
      dots = refl;
    }

-- what a store says of a segmentation by the rules has the sheet of that page
pub sheet-of-layout : (v : Levelling) (sheet : LayoutParams) (w h : ℕ) (m : List ℕ)
    → sheet_held (view_of_layout v.frame v.skew (layout sheet w h m)) ≡ page_sheet (record { levelled = v; layout = layout sheet w h m })
unfolding view_of_layout page_sheet
sheet-of-layout v sheet w h m =
    let l = layout sheet w h m in
    words-have-text (record { levelled = v; layout = l }) (figure_words (figures_of l)) (tells l)

-- and so for every page
pub sheet-of-page : (mask : List ℕ) (w h : ℕ) (skew slope : Float) (level segment : LayoutParams)
    → sheet_held (view_of_layout (page mask w h skew slope level segment).levelled.frame (page mask w h skew slope level segment).levelled.skew (page mask w h skew slope level segment).layout)
    ≡ page_sheet (page mask w h skew slope level segment)
unfolding page
sheet-of-page mask w h skew slope level segment =
    let l = levelling mask w h skew slope level in
    sheet-of-layout l segment l.frame.w l.frame.h l.ink

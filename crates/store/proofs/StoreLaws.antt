-- A store that holds a levelling, and the results of a segmentation: after levelling, after segmenting, and in parts lent of it.
use mathlib.Core.Path.{◌≡◌, refl, sym, ap, ◌∙◌, subst}
use mathlib.Core.List.{List, [], ◌∷◌, ◌++◌}
use Prim.Native.Nat.{ℕ, ◌+◌, ◌*◌, ◌≤◌}
use native.Mathlib.Nat.{le_trans}
use native.Mathlib.Omega.{arith}
use lib.ListN.{length, get_or, take, drop, length-append, length-drop}
use lib.Seq.{length-take-le}
use Rattle.memory.specs.rules.Limits.{store_words}
use Rattle.memory.specs.rules.Words.{word_at, over, put_at}
use Rattle.segmenting.specs.rules.Layouts.{Layout}
use Rattle.segmenting.specs.rules.Results.{rules_at, graphics_at, glyph_records_at, lines_at, blocks_at, result_words, results_left}
use Rattle.segmenting.specs.rules.Figures.{figures_of, figure_words}
use Rattle.judging.specs.rules.Header.{held, part, header_words, figures_at, lists_at, frame_held}
use Rattle.judging.specs.rules.Leaves.{Leaf, levelling_of, leaf_held}
use Rattle.store.specs.rules.Written.{level_words, store_levelled, store_segmented}
use Rattle.judging.specs.rules.Views.{view_with, view_of, view_of_layout}
use Rattle.judging.proofs.PartLaws.{part-word, part-append, part-over, part-take, part-before, part-put, part-past, over-past, length_over, length-put}
use Rattle.store.proofs.ListLaws.{Few, ListsHold, lists-left, length-left}
use Rattle.store.proofs.HeaderLaws.{Accepted, shears-long, frame-of, page_wide}

-- the words of the store that a leaf asks
abbrev pub leaf_store : Leaf → ℕ
leaf_store a = store_words a.w (levelling_of a).frame.w (levelling_of a).frame.h a.capacity

-- the words 1 to 9 and the shears of a levelled leaf
pub record StoreHolds (a : Leaf) (s : List ℕ) : Type 0 where
  pub words : part 1 9 s ≡ level_words a
  pub shears : part header_words (a.w + (levelling_of a).frame.h) s ≡ (levelling_of a).frame.shear ++ (levelling_of a).frame.shear_x
  pub room : leaf_store a ≤ length s

-- the figures and lists of a layout
pub record ResultsHold (a : Leaf) (l : Layout) (s : List ℕ) : Type 0 where
  pub figures : part figures_at 15 s ≡ figure_words (figures_of l)
  pub lists : ListsHold (lists_at a.w (levelling_of a).frame.h) (levelling_of a).frame.w a.capacity l s

-- the first N words are the same
abbrev SameParts : ℕ → List ℕ → List ℕ → Type 0
SameParts N s t = (p n : ℕ) → p + n ≤ N → part p n t ≡ part p n s

store_same : (a : Leaf) (s t : List ℕ) → leaf_store a ≤ length t → SameParts (leaf_store a) s t → StoreHolds a s → StoreHolds a t
store_same a s t l e H =
    record {
      words = e 1 9 (omega arith) ∙ H.words;
      shears = e header_words (a.w + (levelling_of a).frame.h) (omega arith) ∙ H.shears;
      room = l;
    }

results_same : (a : Leaf) (y : Layout) (s t : List ℕ) → Few (levelling_of a).frame.w a.capacity y → SameParts (leaf_store a) s t → ResultsHold a y s → ResultsHold a y t
results_same a y s t F e H =
    let at = lists_at a.w (levelling_of a).frame.h in
    let w = (levelling_of a).frame.w in
    let P = a.capacity in
    let L = H.lists in
    record {
      figures = e figures_at 15 (omega arith) ∙ H.figures;
      lists =
          record {
            columns = e at (length y.columns * 2) (let f = F.columns in omega arith) ∙ L.columns;
            rules = e (at + rules_at w) (length y.rules * 4) (let f = F.rules in omega arith) ∙ L.rules;
            graphics = e (at + graphics_at w P) (length y.graphics * 4) (let f = F.graphics in omega arith) ∙ L.graphics;
            glyphs = e (at + glyph_records_at w P) (length y.glyphs * 6) (let f = F.glyphs in omega arith) ∙ L.glyphs;
            lines = e (at + lines_at w P) (length y.lines * 8) (let f = F.lines in omega arith) ∙ L.lines;
            blocks = e (at + blocks_at w P) (length y.blocks * 5) (let f = F.blocks in omega arith) ∙ L.blocks;
          };
    }

-- in the first k words
pub store-front : (a : Leaf) (k : ℕ) (s : List ℕ) → leaf_store a ≤ k → k ≤ length s → StoreHolds a s → StoreHolds a (take k s)
store-front a k s h l = store_same a s (take k s) (let e = length-take-le k s l in omega arith) (λ p n q. part-take p n k s (le_trans q h) l)

pub results-front : (a : Leaf) (y : Layout) (k : ℕ) (s : List ℕ) → Few (levelling_of a).frame.w a.capacity y → leaf_store a ≤ k → k ≤ length s → ResultsHold a y s → ResultsHold a y (take k s)
results-front a y k s F h l = results_same a y s (take k s) F (λ p n q. part-take p n k s (le_trans q h) l)

-- put back
pub store-back : (a : Leaf) (x s : List ℕ) → length x ≤ length s → StoreHolds a x → StoreHolds a (over x s)
store-back a x s l H = store_same a x (over x s) (let e = length_over x s l in let r = H.room in omega arith) (λ p n q. part-over p n x s (le_trans q H.room)) H

pub results-back : (a : Leaf) (y : Layout) (x s : List ℕ) → Few (levelling_of a).frame.w a.capacity y → leaf_store a ≤ length x → ResultsHold a y x → ResultsHold a y (over x s)
results-back a y x s F r = results_same a y x (over x s) F (λ p n q. part-over p n x s (le_trans q r))

-- the first word
first_word : (s : List ℕ) → word_at s 0 ≡ get_or (part 0 1 s) 0 0
first_word s = sym (part-word 0 1 s 0 (omega arith))

pub first_back : (x s : List ℕ) → 1 ≤ length x → word_at (over x s) 0 ≡ word_at x 0
first_back x s l = first_word (over x s) ∙ (ap (λ (z : List ℕ). get_or z 0 0) (part-over 0 1 x s (omega arith)) ∙ sym (first_word x))

-- after levelling
module _ (a : Leaf) (A : Accepted a) (s : List ℕ) (room : leaf_store a ≤ length s) where
  ten : length (1 ∷ level_words a) ≤ length s
  ten = omega arith

  header : List ℕ
  header = over (1 ∷ level_words a) s

  header-long : length header ≡ length s
  unfolding header
  header-long = length_over (1 ∷ level_words a) s ten

  shears : List ℕ
  shears = (levelling_of a).frame.shear ++ (levelling_of a).frame.shear_x

  shears-count : length shears ≡ a.w + (levelling_of a).frame.h
  unfolding shears
  shears-count = shears-long a A

  levelled-is : store_levelled a s ≡ put_at header_words shears header
  unfolding store_levelled header shears
  levelled-is = refl

  pub levelled-long : length (store_levelled a s) ≡ length s
  levelled-long = ap length levelled-is ∙ (length-put header_words shears header (let e = shears-count in let f = header-long in omega arith) ∙ header-long)

  pub levelled-state : word_at (store_levelled a s) 0 ≡ 1
  unfolding header part
  levelled-state =
      first_word (store_levelled a s)
      ∙ ap (λ (z : List ℕ). get_or z 0 0)
      (ap (part 0 1) levelled-is
      ∙ (part-before 0 1 header_words shears header (omega arith) (let f = header-long in omega arith)
      ∙ part-over 0 1 (1 ∷ level_words a) s (omega arith)))

  pub levelled-holds : StoreHolds a (store_levelled a s)
  unfolding header part
  levelled-holds =
      record {
        words =
            ap (part 1 9) levelled-is
            ∙ (part-before 1 9 header_words shears header (omega arith) (let f = header-long in omega arith)
            ∙ part-over 1 9 (1 ∷ level_words a) s (omega arith));
        shears =
            ap (part header_words (a.w + (levelling_of a).frame.h)) levelled-is
            ∙ (part-put header_words (a.w + (levelling_of a).frame.h) shears header (let f = header-long in omega arith) shears-count ∙ (unfold shears in refl));
        room = let e = levelled-long in omega arith;
      }

-- after segmenting
module _ (a : Leaf) (l : Layout) (F : Few (levelling_of a).frame.w a.capacity l) (s : List ℕ) (H : StoreHolds a s) where
  at : ℕ
  at = lists_at a.w (levelling_of a).frame.h

  fig : List ℕ
  fig = figure_words (figures_of l)

  fig-long : length fig ≡ 15
  unfolding fig figure_words
  fig-long = refl

  s₁ : List ℕ
  s₁ = over (2 ∷ []) s

  s₁-long : length s₁ ≡ length s
  unfolding s₁
  s₁-long = length_over (2 ∷ []) s (let r = H.room in omega arith)

  s₂ : List ℕ
  s₂ = put_at figures_at fig s₁

  s₂-long : length s₂ ≡ length s
  unfolding s₂
  s₂-long = length-put figures_at fig s₁ (let e = fig-long in let f = s₁-long in let r = H.room in omega arith) ∙ s₁-long

  at_in : at + result_words (levelling_of a).frame.w a.capacity ≤ length s
  unfolding at
  at_in = let r = H.room in omega arith

  front_long : length (take at s₂) ≡ at
  front_long = length-take-le at s₂ (let e = s₂-long in let r = at_in in omega arith)

  rest-long : result_words (levelling_of a).frame.w a.capacity ≤ length (drop at s₂)
  rest-long = let d = length-drop at s₂ in let e = s₂-long in let r = at_in in omega arith

  segmented : List ℕ
  segmented = store_segmented a.w (levelling_of a).frame.w (levelling_of a).frame.h a.capacity l s

  segmented-is : segmented ≡ take at s₂ ++ results_left (levelling_of a).frame.w a.capacity l (drop at s₂)
  unfolding segmented store_segmented s₁ s₂ at fig
  segmented-is = refl

  segmented-long : length segmented ≡ length s
  segmented-long =
      ap length segmented-is
      ∙ (length-append (take at s₂) (results_left (levelling_of a).frame.w a.capacity l (drop at s₂))
      ∙ (let e = length-left (levelling_of a).frame.w a.capacity l F (drop at s₂) rest-long in
      let f = front_long in let d = length-drop at s₂ in let g = s₂-long in let r = at_in in omega arith))

  -- a part before the lists
  before : (p n : ℕ) → p + n ≤ at → part p n segmented ≡ part p n s₂
  before p n h =
      ap (part p n) segmented-is
      ∙ (part-append p n (take at s₂) (results_left (levelling_of a).frame.w a.capacity l (drop at s₂)) (let f = front_long in omega arith)
      ∙ part-take p n at s₂ h (let e = s₂-long in let r = at_in in omega arith))

  state : word_at segmented 0 ≡ 2
  unfolding s₁ s₂ part at
  state =
      first_word segmented
      ∙ ap (λ (z : List ℕ). get_or z 0 0)
      (before 0 1 (omega arith)
      ∙ (part-before 0 1 figures_at fig s₁ (omega arith) (let f = s₁-long in let r = H.room in omega arith) ∙ part-over 0 1 (2 ∷ []) s (omega arith)))

  holds : StoreHolds a segmented
  unfolding s₁ s₂ at
  holds =
      record {
        words =
            before 1 9 (omega arith)
            ∙ (part-before 1 9 figures_at fig s₁ (omega arith) (let f = s₁-long in let r = H.room in omega arith)
            ∙ (over-past 1 9 (2 ∷ []) s (omega arith) ∙ H.words));
        shears =
            before header_words (a.w + (levelling_of a).frame.h) (omega arith)
            ∙ (part-past header_words (a.w + (levelling_of a).frame.h) figures_at fig s₁ (let e = fig-long in omega arith) (let f = s₁-long in let r = H.room in omega arith)
            ∙ (over-past header_words (a.w + (levelling_of a).frame.h) (2 ∷ []) s (omega arith) ∙ H.shears));
        room = let e = segmented-long in let r = H.room in omega arith;
      }

  results : ResultsHold a l segmented
  unfolding s₂ at
  results =
      record {
        figures =
            before figures_at 15 (omega arith)
            ∙ (part-put figures_at 15 fig s₁ (let f = s₁-long in let r = H.room in omega arith) fig-long ∙ (unfold fig in refl));
        lists = subst (ListsHold at (levelling_of a).frame.w a.capacity l) (sym segmented-is)
            (lists-left (levelling_of a).frame.w a.capacity l F (drop at s₂) rest-long at (take at s₂) front_long);
      }

  pub segmented-holds : StoreHolds a (store_segmented a.w (levelling_of a).frame.w (levelling_of a).frame.h a.capacity l s)
  unfolding segmented
  segmented-holds = holds

  pub segmented-results : ResultsHold a l (store_segmented a.w (levelling_of a).frame.w (levelling_of a).frame.h a.capacity l s)
  unfolding segmented
  segmented-results = results

  pub segmented-state : word_at (store_segmented a.w (levelling_of a).frame.w (levelling_of a).frame.h a.capacity l s) 0 ≡ 2
  unfolding segmented
  segmented-state = state

  pub segmented-length : length (store_segmented a.w (levelling_of a).frame.w (levelling_of a).frame.h a.capacity l s) ≡ length s
  unfolding segmented
  segmented-length = segmented-long

-- what such a store says is the layout's
pub view-is : (a : Leaf) (l : Layout) (s kinds : List ℕ) → held s ≡ leaf_held 2 a → ResultsHold a l s
    → take ((levelling_of a).frame.w * (levelling_of a).frame.h) kinds ≡ l.plane → view_of s kinds ≡ view_of_layout (levelling_of a).frame (levelling_of a).skew l
unfolding view_of view_with view_of_layout figure_words
view-is a l s kinds e R k =
    let f = (levelling_of a).frame in
    let P = a.capacity in
    let L = R.lists in
    (λ i. view_with (R.figures i) (frame_held (e i)) (e i).skew (e i).capacity s kinds)
    ∙ ((λ i. view_with (figure_words (figures_of l)) (frame-of a 2 i) (levelling_of a).skew P s kinds)
    ∙ (λ i. record {
      frame = f;
      skew = (levelling_of a).skew;
      figures = figure_words (figures_of l);
      columns = (ap (λ z. part (lists_at z f.h) (length l.columns * 2) s) (page_wide a) ∙ L.columns) i;
      rules = (ap (λ z. part (lists_at z f.h + rules_at f.w) (length l.rules * 4) s) (page_wide a) ∙ L.rules) i;
      graphics = (ap (λ z. part (lists_at z f.h + graphics_at f.w P) (length l.graphics * 4) s) (page_wide a) ∙ L.graphics) i;
      glyphs = (ap (λ z. part (lists_at z f.h + glyph_records_at f.w P) (length l.glyphs * 6) s) (page_wide a) ∙ L.glyphs) i;
      lines = (ap (λ z. part (lists_at z f.h + lines_at f.w P) (length l.lines * 8) s) (page_wide a) ∙ L.lines) i;
      blocks = (ap (λ z. part (lists_at z f.h + blocks_at f.w P) (length l.blocks * 5) s) (page_wide a) ∙ L.blocks) i;
      kinds = k i;
    }))

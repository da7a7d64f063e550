-- The lists of a layout in the words of a store: each is read back from its place.
use mathlib.Core.Path.{◌≡◌, refl, ap, ◌∙◌}
use mathlib.Core.List.{List, ◌++◌}
use Prim.Native.Nat.{ℕ, ◌+◌, ◌*◌, ◌≤◌}
use native.Mathlib.Omega.{arith}
use lib.ListN.{length}
use Rattle.memory.specs.rules.Limits.{max_lines}
use Rattle.memory.specs.rules.Records.{encoded}
use Rattle.memory.specs.rules.Words.{over, put_at}
use Rattle.memory.proofs.RecordLaws.{length-encoded}
use Rattle.segmenting.specs.rules.Layouts.{Layout}
use Rattle.smoothing.specs.rules.LineRecords.{line_record, glyph_record}
use Rattle.grouping.specs.rules.BlockRecords.{block_record, column_record}
use Rattle.memory.specs.rules.Rects.{box_words}
use Rattle.segmenting.specs.rules.Results.{rules_at, graphics_at, glyph_records_at, lines_at, blocks_at, result_words, results_left}
use Rattle.judging.specs.rules.Header.{part}
use Rattle.judging.proofs.PartLaws.{part-put, part-before, part-past, over-past, length-put, length_over, part-behind, part-seam}

-- no list of a layout is longer than its area
pub record Few (w P : ℕ) (l : Layout) : Type 0 where
  pub columns : length l.columns ≤ w
  pub rules : length l.rules ≤ 3 * P
  pub graphics : length l.graphics ≤ P
  pub glyphs : length l.glyphs ≤ P
  pub lines : length l.lines ≤ P
  pub lines-most : length l.lines ≤ max_lines
  pub blocks : length l.blocks ≤ P

-- each list stands in its place, counted from word `at` on
pub record ListsHold (at w P : ℕ) (l : Layout) (s : List ℕ) : Type 0 where
  pub columns : part at (length l.columns * 2) s ≡ encoded column_record l.columns
  pub rules : part (at + rules_at w) (length l.rules * 4) s ≡ encoded box_words l.rules
  pub graphics : part (at + graphics_at w P) (length l.graphics * 4) s ≡ encoded box_words l.graphics
  pub glyphs : part (at + glyph_records_at w P) (length l.glyphs * 6) s ≡ encoded glyph_record l.glyphs
  pub lines : part (at + lines_at w P) (length l.lines * 8) s ≡ encoded line_record l.lines
  pub blocks : part (at + blocks_at w P) (length l.blocks * 5) s ≡ encoded block_record l.blocks

module _ (w P : ℕ) (l : Layout) (few : Few w P l) (s : List ℕ) (room : result_words w P ≤ length s) where
  c-long : length (encoded column_record l.columns) ≡ length l.columns * 2
  c-long = length-encoded column_record 2 (λ _. refl) l.columns

  r-long : length (encoded box_words l.rules) ≡ length l.rules * 4
  r-long = length-encoded box_words 4 (λ _. refl) l.rules

  a-long : length (encoded box_words l.graphics) ≡ length l.graphics * 4
  a-long = length-encoded box_words 4 (λ _. refl) l.graphics

  g-long : length (encoded glyph_record l.glyphs) ≡ length l.glyphs * 6
  g-long = length-encoded glyph_record 6 (λ _. refl) l.glyphs

  l-long : length (encoded line_record l.lines) ≡ length l.lines * 8
  l-long = length-encoded line_record 8 (λ _. refl) l.lines

  b-long : length (encoded block_record l.blocks) ≡ length l.blocks * 5
  b-long = length-encoded block_record 5 (λ _. refl) l.blocks

  s₁ : List ℕ
  s₁ = put_at (rules_at w) (encoded box_words l.rules) s

  s₂ : List ℕ
  s₂ = put_at (graphics_at w P) (encoded box_words l.graphics) s₁

  s₃ : List ℕ
  s₃ = put_at (glyph_records_at w P) (encoded glyph_record l.glyphs) s₂

  s₄ : List ℕ
  s₄ = put_at (blocks_at w P) (encoded block_record l.blocks) s₃

  s₅ : List ℕ
  s₅ = put_at (lines_at w P) (encoded line_record l.lines) s₄

  n₁ : length s₁ ≡ length s
  unfolding s₁
  n₁ = length-put (rules_at w) (encoded box_words l.rules) s (let e = r-long in let f = few.rules in omega arith)

  n₂ : length s₂ ≡ length s
  unfolding s₂
  n₂ = length-put (graphics_at w P) (encoded box_words l.graphics) s₁ (let e = a-long in let f = few.graphics in let n = n₁ in omega arith) ∙ n₁

  n₃ : length s₃ ≡ length s
  unfolding s₃
  n₃ = length-put (glyph_records_at w P) (encoded glyph_record l.glyphs) s₂ (let e = g-long in let f = few.glyphs in let n = n₂ in omega arith) ∙ n₂

  n₄ : length s₄ ≡ length s
  unfolding s₄
  n₄ = length-put (blocks_at w P) (encoded block_record l.blocks) s₃ (let e = b-long in let f = few.blocks in let n = n₃ in omega arith) ∙ n₃

  n₅ : length s₅ ≡ length s
  unfolding s₅
  n₅ = length-put (lines_at w P) (encoded line_record l.lines) s₄ (let e = l-long in let f = few.lines in let n = n₄ in omega arith) ∙ n₄

  left_is : results_left w P l s ≡ over (encoded column_record l.columns) s₅
  unfolding results_left s₁ s₂ s₃ s₄ s₅
  left_is = refl

  pub length-left : length (results_left w P l s) ≡ length s
  length-left =
      ap length left_is ∙ (length_over (encoded column_record l.columns) s₅ (let e = c-long in let f = few.columns in let n = n₅ in omega arith) ∙ n₅)

  -- a part behind the columns
  past-columns : (a n : ℕ) → 2 * w ≤ a → part a n (results_left w P l s) ≡ part a n s₅
  past-columns a n h = ap (part a n) left_is ∙ over-past a n (encoded column_record l.columns) s₅ (let e = c-long in let f = few.columns in omega arith)

  -- .. and before the lines
  before-lines : (a n : ℕ) → 2 * w ≤ a → a + n ≤ lines_at w P → part a n (results_left w P l s) ≡ part a n s₄
  unfolding s₅
  before-lines a n h k = past-columns a n h ∙ part-before a n (lines_at w P) (encoded line_record l.lines) s₄ k (let n = n₄ in omega arith)

  -- .. and before the blocks
  before-blocks : (a n : ℕ) → 2 * w ≤ a → a + n ≤ lines_at w P → part a n (results_left w P l s) ≡ part a n s₃
  unfolding s₄
  before-blocks a n h k = before-lines a n h k ∙ part-before a n (blocks_at w P) (encoded block_record l.blocks) s₃ (omega arith) (let n = n₃ in omega arith)

  -- each list is read back, with `at` words before
  pub lists-left : (at : ℕ) (x : List ℕ) → length x ≡ at → ListsHold at w P l (x ++ results_left w P l s)
  unfolding s₁ s₂ s₃ s₄ s₅
  lists-left at x e =
      record {
        columns =
            part-seam at (length l.columns * 2) x (results_left w P l s) e
            ∙ (ap (part 0 (length l.columns * 2)) left_is ∙ part-put 0 (length l.columns * 2) (encoded column_record l.columns) s₅ (omega arith) c-long);
        rules =
            part-behind at (rules_at w) (length l.rules * 4) x (results_left w P l s) e
            ∙ (before-blocks (rules_at w) (length l.rules * 4) (omega arith) (let f = few.rules in omega arith)
            ∙ (part-before (rules_at w) (length l.rules * 4) (glyph_records_at w P) (encoded glyph_record l.glyphs) s₂ (let f = few.rules in omega arith) (let n = n₂ in omega arith)
            ∙ (part-before (rules_at w) (length l.rules * 4) (graphics_at w P) (encoded box_words l.graphics) s₁ (let f = few.rules in omega arith) (let n = n₁ in omega arith)
            ∙ part-put (rules_at w) (length l.rules * 4) (encoded box_words l.rules) s (omega arith) r-long)));
        graphics =
            part-behind at (graphics_at w P) (length l.graphics * 4) x (results_left w P l s) e
            ∙ (before-blocks (graphics_at w P) (length l.graphics * 4) (omega arith) (let f = few.graphics in omega arith)
            ∙ (part-before (graphics_at w P) (length l.graphics * 4) (glyph_records_at w P) (encoded glyph_record l.glyphs) s₂ (let f = few.graphics in omega arith) (let n = n₂ in omega arith)
            ∙ part-put (graphics_at w P) (length l.graphics * 4) (encoded box_words l.graphics) s₁ (let n = n₁ in omega arith) a-long));
        glyphs =
            part-behind at (glyph_records_at w P) (length l.glyphs * 6) x (results_left w P l s) e
            ∙ (before-blocks (glyph_records_at w P) (length l.glyphs * 6) (omega arith) (let f = few.glyphs in omega arith)
            ∙ part-put (glyph_records_at w P) (length l.glyphs * 6) (encoded glyph_record l.glyphs) s₂ (let n = n₂ in omega arith) g-long);
        lines =
            part-behind at (lines_at w P) (length l.lines * 8) x (results_left w P l s) e
            ∙ (past-columns (lines_at w P) (length l.lines * 8) (omega arith)
            ∙ part-put (lines_at w P) (length l.lines * 8) (encoded line_record l.lines) s₄ (let n = n₄ in omega arith) l-long);
        blocks =
            part-behind at (blocks_at w P) (length l.blocks * 5) x (results_left w P l s) e
            ∙ (past-columns (blocks_at w P) (length l.blocks * 5) (omega arith)
            ∙ (part-past (blocks_at w P) (length l.blocks * 5) (lines_at w P) (encoded line_record l.lines) s₄ (let e = l-long in let f = few.lines in omega arith) (let n = n₄ in omega arith)
            ∙ part-put (blocks_at w P) (length l.blocks * 5) (encoded block_record l.blocks) s₃ (let n = n₃ in omega arith) b-long));
      }

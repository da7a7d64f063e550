-- What holds of every page, over the definitions alone: blocks and columns.
use mathlib.Core.Path.{◌≡◌, ap, subst}
use mathlib.Core.Bool.{Bool, true, cond}
use mathlib.Core.Logic.{◌↔◌}
use mathlib.Core.List.{List}
use Prim.Native.Nat.{ℕ, suc, ◌+◌, ◌-◌, ◌≤◌, ◌<◌}
use native.Mathlib.Omega.{arith}
use lib.Ieee.{Float}
use lib.ListN.{get_or, length}
use lib.Dec.{eqb}
use Rattle.memory.specs.rules.Lists.{table, upto, keep, greatest, count_if, occurs}
use Rattle.memory.proofs.ListLaws.{Each, each_at, each_keep}
use Rattle.memory.proofs.PlaceLaws.{count-below, count-length, count-place}
use Rattle.union_find.specs.rules.Classes.{first_of}
use Rattle.union_find.specs.rules.Chains.{Chain}
use Rattle.union_find.proofs.FirstLaws.{firsts-right, firsts-chain, along}
use Rattle.memory.specs.declared.rect.Rect.{Rect}
use Rattle.params.specs.declared.LayoutParams.{LayoutParams}
use Rattle.rounding.specs.rules.Lengths.{◌·◌, dots}
use Rattle.grouping.specs.rules.Blocks.{Block, hard_cap, max_gap, together, block_firsts, opens_block, block_number, blocks_of}
use Rattle.grouping.specs.rules.Columns.{cover, covered, columns_of}
use Rattle.grouping.specs.declared.column.Column.{Column}
use Rattle.grouping.proofs.BlockLaws.{blocks-part, block-in-range, block-first, numbers-rise, number_same}
use Rattle.grouping.proofs.TogetherLaws.{block-low, block-idem}
use Rattle.grouping.proofs.ColumnLaws.{rising-keep, runs-order, order-at, order-apart, runs-ends, Within, runs-each, runs-spaced, runs_close}

-- Blocks: fs is the first line of each line's block

module _ (p : LayoutParams) (ls : List Rect) where
  -- blocks part the lines: line i stands once in the list of its own block, and in no other's
  pub each-line-in-one-block : (i b : ℕ) (d : Block) → i < length ls → b < length (blocks_of ls (block_firsts p ls))
      → occurs i (get_or (blocks_of ls (block_firsts p ls)) b d).lines ≡ cond (eqb b (block_number (block_firsts p ls) i)) 1 0
  each-line-in-one-block = blocks-part ls (block_firsts p ls) (block-low p ls) (block-idem p ls)

  -- and its block is there
  pub block-of-line-exists : (i : ℕ) → i < length ls → block_number (block_firsts p ls) i < length (blocks_of ls (block_firsts p ls))
  block-of-line-exists = block-in-range ls (block_firsts p ls) (block-low p ls) (block-idem p ls)

  -- every block has a line: its first
  pub each-block-has-a-line : (b : ℕ) (d : Block) → b < length (blocks_of ls (block_firsts p ls))
      → (k : ℕ) × (k < length ls) × (first_of (block_firsts p ls) k ≡ k) × (block_number (block_firsts p ls) k ≡ b) × (occurs k (get_or (blocks_of ls (block_firsts p ls)) b d).lines ≡ 1)
  each-block-has-a-line = block-first ls (block_firsts p ls) (block-low p ls) (block-idem p ls)

  -- block numbers rise with first lines
  pub block-numbers-rise : (i j : ℕ) → first_of (block_firsts p ls) i < first_of (block_firsts p ls) j → block_number (block_firsts p ls) i < block_number (block_firsts p ls) j
  block-numbers-rise = numbers-rise ls (block_firsts p ls) (block-low p ls) (block-idem p ls)

  -- two lines share a block just where a chain of lines that belong together joins them
  pub same-block-by-chain : (i j : ℕ)
      → (block_number (block_firsts p ls) i ≡ block_number (block_firsts p ls) j) ↔ Chain (together p.block_min_overlap (hard_cap p ls) (max_gap p ls) ls) (length ls) i j
  unfolding block_firsts block_number
  same-block-by-chain i j =
      let right = firsts-right (together p.block_min_overlap (hard_cap p ls) (max_gap p ls) ls) (length ls) in
      (λ e. firsts-chain right i j (number_same ls (block_firsts p ls) (block-low p ls) (block-idem p ls) i j e), λ c. ap (count_if (opens_block (block_firsts p ls))) (along right c))

-- Columns

-- frame column x is covered, by the greatest count of the page
abbrev pub covered_at : LayoutParams → ℕ → List Rect → ℕ → Bool
covered_at p w ls = covered p (greatest (table (cover ls) w)) ls

all-covered : (p : LayoutParams) (w : ℕ) (ls : List Rect) → Each (λ x. covered_at p w ls x ≡ true) (keep (covered_at p w ls) (upto w))
all-covered p w ls = each_keep (λ x. covered_at p w ls x ≡ true) (covered_at p w ls) (λ x e. e) (upto w)

module _ (p : LayoutParams) (unit : Float) (w : ℕ) (ls : List Rect) where
  -- each column lies inside the frame, its ends in order
  pub column_inside : (i : ℕ) (d : Column) → i < length (columns_of p unit w ls)
      → ((get_or (columns_of p unit w ls) i d).x0 ≤ (get_or (columns_of p unit w ls) i d).x1) × ((get_or (columns_of p unit w ls) i d).x1 < w)
  unfolding columns_of
  column_inside i d h =
      let (from, ends, inside) = order-at 0 w (columns_of p unit w ls) (runs-order (dots (p.column_gap_xh · unit)) w _ (rising-keep _ w)) i d h in
      (ends, inside)

  -- columns are disjoint and in order
  pub columns-apart : (i j : ℕ) (d : Column) → i < j → j < length (columns_of p unit w ls)
      → (get_or (columns_of p unit w ls) i d).x1 < (get_or (columns_of p unit w ls) j d).x0
  unfolding columns_of
  columns-apart i j d h k = order-apart 0 w (columns_of p unit w ls) (runs-order (dots (p.column_gap_xh · unit)) w _ (rising-keep _ w)) i j d h k

  -- both ends of a column are covered
  pub column-ends-covered : (i : ℕ) (d : Column) → i < length (columns_of p unit w ls)
      → (covered_at p w ls (get_or (columns_of p unit w ls) i d).x0 ≡ true) × (covered_at p w ls (get_or (columns_of p unit w ls) i d).x1 ≡ true)
  unfolding columns_of
  column-ends-covered i d h =
      each_at _ (columns_of p unit w ls) (runs-ends (λ x. covered_at p w ls x ≡ true) (dots (p.column_gap_xh · unit)) (keep (covered_at p w ls) (upto w)) (all-covered p w ls)) i d h

  -- every covered frame column lies in a column
  pub covered-in-a-column : (x : ℕ) (d : Column) → x < w → covered_at p w ls x ≡ true
      → (i : ℕ) × (i < length (columns_of p unit w ls)) × ((get_or (columns_of p unit w ls) i d).x0 ≤ x) × (x ≤ (get_or (columns_of p unit w ls) i d).x1)
  unfolding columns_of
  covered-in-a-column x d inside e =
      subst (Within d (columns_of p unit w ls)) (count-place (covered_at p w ls) w x 0 inside e)
      (runs-each d (dots (p.column_gap_xh · unit)) w (keep (covered_at p w ls) (upto w)) (rising-keep (covered_at p w ls) w) (count_if (covered_at p w ls) x) (let a = count-below (covered_at p w ls) x w inside e in let b = count-length (covered_at p w ls) w in omega arith))

  -- a column goes on over fewer than the gap: from each of its places before its end the next covered frame column is that near
  pub column-goes-on : (i : ℕ) (d : Column) → i < length (columns_of p unit w ls) → (x : ℕ) → (get_or (columns_of p unit w ls) i d).x0 ≤ x → x < (get_or (columns_of p unit w ls) i d).x1
      → (y : ℕ) × (covered_at p w ls y ≡ true) × (x < y) × (y ≤ (get_or (columns_of p unit w ls) i d).x1) × (y - (x + 1) < dots (p.column_gap_xh · unit))
  unfolding columns_of
  column-goes-on i d h =
      each_at _ (columns_of p unit w ls)
      (runs_close (λ x. covered_at p w ls x ≡ true) (dots (p.column_gap_xh · unit)) w (keep (covered_at p w ls) (upto w)) (all-covered p w ls) (rising-keep (covered_at p w ls) w)) i d h

  -- and between two columns that follow one another lie at least that many frame columns
  pub columns-apart-by-gap : (i : ℕ) (d : Column) → suc i < length (columns_of p unit w ls)
      → dots (p.column_gap_xh · unit) ≤ (get_or (columns_of p unit w ls) (suc i) d).x0 - ((get_or (columns_of p unit w ls) i d).x1 + 1)
  unfolding columns_of
  columns-apart-by-gap i d = runs-spaced d (dots (p.column_gap_xh · unit)) (keep (covered_at p w ls) (upto w)) i

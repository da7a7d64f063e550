-- Lines that belong together, as the walk over the pairs asks it, and the first line of each block.
use mathlib.Core.Path.{◌≡◌, sym, ap, ◌∙◌, subst}
use mathlib.Core.Bool.{Bool, true, false, ◌&&◌}
use mathlib.Core.List.{List}
use Prim.Native.Nat.{ℕ, ◌≤◌, ◌<◌, min}
use native.Mathlib.Decide.{dec_le}
use native.Mathlib.Omega.{arith}
use borrow.Author.Tests.{le-leb, lt-leb}
use lib.Ieee.{Float}
use lib.ListN.{get_or, length}
use lib.Dec.{leb}
use Rattle.memory.proofs.TableLaws.{length-table, get_or-table}
use Rattle.union_find.specs.rules.Classes.{first_of, firsts}
use Rattle.union_find.specs.stages.Forests.{Forest}
use Rattle.memory.specs.declared.rect.Rect.{Rect}
use Rattle.union_find.proofs.FirstLaws.{firsts-right, along}
use Rattle.params.specs.declared.LayoutParams.{LayoutParams}
use Rattle.grouping.specs.rules.Blocks.{line_gap, overlapping, candidates, together, no_rect, hard_cap, max_gap, block_firsts, block_number}
use Rattle.grouping.specs.stages.Joining.{joins}
use Rattle.grouping.specs.rules.HeldLines.{line_box}
use Rattle.grouping.specs.stages.LineBoxes.{line_boxes}
use Rattle.grouping.proofs.PairLaws.{firsts_same}

-- each line's first line stands no later, and is its own
pub firsts-low : (r : ℕ → ℕ → Bool) (n k : ℕ) → first_of (firsts r n) k ≤ k
firsts-low r n k = (firsts-right r n).low k

pub firsts-idem : (r : ℕ → ℕ → Bool) (n k : ℕ) → first_of (firsts r n) (first_of (firsts r n) k) ≡ first_of (firsts r n) k
firsts-idem r n k = sym (along (firsts-right r n) ((firsts-right r n).sound k))

pub block-low : (p : LayoutParams) (ls : List Rect) (k : ℕ) → first_of (block_firsts p ls) k ≤ k
unfolding block_firsts
block-low p ls k = firsts-low (together p.block_min_overlap (hard_cap p ls) (max_gap p ls) ls) (length ls) k

pub block-idem : (p : LayoutParams) (ls : List Rect) (k : ℕ) → first_of (block_firsts p ls) (first_of (block_firsts p ls) k) ≡ first_of (block_firsts p ls) k
unfolding block_firsts
block-idem p ls k = firsts-idem (together p.block_min_overlap (hard_cap p ls) (max_gap p ls) ls) (length ls) k

-- both limits at once
both : (o : Bool) (g cap most : ℕ) → (leb g cap && o && leb g most) ≡ (leb g (min cap most) && o)
both o g cap most = go o (dec_le g cap) (dec_le g most)
  where
    go : (o : Bool) → Dec (g ≤ cap) → Dec (g ≤ most) → (leb g cap && o && leb g most) ≡ (leb g (min cap most) && o)
    go o (no a) b = rw (lt-leb g cap (omega arith), lt-leb g (min cap most) (omega arith))
    go true (yes a) (yes b) = rw (le-leb g cap a, le-leb g most b, le-leb g (min cap most) (omega arith))
    go true (yes a) (no b) = rw (le-leb g cap a, lt-leb g most (omega arith), lt-leb g (min cap most) (omega arith))
    go false (yes a) (yes b) = rw (le-leb g cap a, le-leb g (min cap most) (omega arith))
    go false (yes a) (no b) = rw (le-leb g cap a, lt-leb g (min cap most) (omega arith))

joins-together : (overlap : Float) (cap most n : ℕ) (lines : List ℕ) (a b : ℕ) → a < b → b < n → joins overlap (min cap most) lines a b ≡ together overlap cap most (line_boxes lines n) a b
unfolding together candidates
joins-together overlap cap most n lines a b l m =
    sym (both (overlapping overlap (line_box lines a) (line_box lines b)) (line_gap (line_box lines a) (line_box lines b)) cap most)
    ∙ (λ i. let x : Rect = sym (get_or-table (line_box lines) n a no_rect (omega arith)) i in let y : Rect = sym (get_or-table (line_box lines) n b no_rect m) i in
    leb (line_gap x y) cap && overlapping overlap x y && leb (line_gap x y) most)

pub joins-firsts : (p : LayoutParams) (n : ℕ) (lines : List ℕ) (limit cap most : ℕ) → limit ≡ min cap most → cap ≡ hard_cap p (line_boxes lines n) → most ≡ max_gap p (line_boxes lines n)
    → firsts (joins p.block_min_overlap limit lines) n ≡ block_firsts p (line_boxes lines n)
unfolding block_firsts
joins-firsts p n lines limit cap most el ec em =
    let ls : List Rect = line_boxes lines n in
    let len : length ls ≡ n = length-table (line_box lines) n in
    ap (λ k. firsts (joins p.block_min_overlap k lines) n) (el ∙ (λ i. min (ec i) (em i)))
    ∙ (firsts_same (joins p.block_min_overlap (min (hard_cap p ls) (max_gap p ls)) lines) (together p.block_min_overlap (hard_cap p ls) (max_gap p ls) ls) n
    (joins-together p.block_min_overlap (hard_cap p ls) (max_gap p ls) n lines)
    ∙ ap (firsts (together p.block_min_overlap (hard_cap p ls) (max_gap p ls) ls)) (sym len))

-- the numbers that stand in place of the parents
pub numbers-right : (p : LayoutParams) (n : ℕ) (lines fs s s' : List ℕ) → fs ≡ block_firsts p (line_boxes lines n) → Forest (first_of fs) s n
    → ((fs : List ℕ) → Forest (first_of fs) s n → ((k : ℕ) → first_of fs k ≤ k) → (k : ℕ) → k < n → get_or s' k 0 ≡ block_number fs k)
    → (k : ℕ) → k < n → get_or s' k 0 ≡ block_number (block_firsts p (line_boxes lines n)) k
numbers-right p n lines fs s s' e F h = h (block_firsts p (line_boxes lines n)) (subst (λ (f : List ℕ). Forest (first_of f) s n) e F) (block-low p (line_boxes lines n))

-- Tables of counts of heights and of gaps, and the medians that they give.
use mathlib.Core.Path.{◌≡◌, refl, sym, ap, ◌∙◌, subst}
use mathlib.Core.Bool.{Bool, true, false, cond}
use mathlib.Core.List.{List, [], ◌∷◌, map}
use Prim.Native.Nat.{ℕ, zero, suc, ◌+◌, ◌<◌}
use native.Mathlib.Decide.{dec_lt}
use native.Mathlib.Omega.{arith}
use lib.Ieee.{Float, binary64, add}
use lib.Dec.{ltb}
use lib.ListN.{get_or, length, take, drop, length-map, get_or-eq_default}
use lib.Seq.{take_at}
use Rattle.memory.specs.rules.Lists.{occurs}
use Rattle.memory.specs.rules.Words.{over}
use Rattle.memory.proofs.TableLaws.{length-table, get_or-table}
use Rattle.memory.specs.rules.Rects.{height}
use Rattle.memory.specs.declared.rect.Rect.{Rect}
use Rattle.params.specs.declared.LayoutParams.{LayoutParams}
use Rattle.rounding.specs.rules.Lengths.{float, ◌·◌, dots}
use Rattle.sorting.specs.rules.Units.{median}
use Rattle.sorting.specs.stages.Counts.{CountsOf}
use Rattle.grouping.specs.rules.Blocks.{nearest_gaps, line_height, hard_cap, max_gap}
use Rattle.grouping.specs.stages.Joining.{least_with}
use Rattle.grouping.specs.stages.LineBoxes.{Lines, line_boxes}
use Rattle.grouping.specs.rules.HeldLines.{line_box}
use Rattle.grouping.specs.stages.Counts.{counts, below}
use Rattle.memory.proofs.ListLaws.{Each, each_append, each-table, map-table}
use Rattle.memory.proofs.PlaceLaws.{absent}
use Rattle.grouping.proofs.GapLaws.{gaps_from, gaps_before, before-all}

-- a table of counts is that of its list
pub counts_of : (l s t : List ℕ) (m : ℕ) → Each (λ a. a < m) l → t ≡ over (counts l m) s → CountsOf (take m t) (length l) l
counts_of l s t m h e =
    let front : take m t ≡ counts l m = ap (take m) e ∙ take_at (counts l m) (drop (length (counts l m)) s) m (length-table (λ v. occurs v l) m) in
    record { size = refl; each = λ v. ap (λ (z : List ℕ). get_or z v 0) front ∙ at v (dec_lt v m) }
  where
    at : (v : ℕ) → Dec (v < m) → get_or (counts l m) v 0 ≡ occurs v l
    at v (yes k) = get_or-table (λ w. occurs w l) m v 0 k
    at v (no k) = get_or-eq_default (counts l m) 0 (let z = length-table (λ w. occurs w l) m in omega arith) ∙ sym (absent m v l h (omega arith))

-- Heights

abbrev pub heights : List ℕ → ℕ → List ℕ
heights lines i = map height (line_boxes lines i)

pub heights-length : (lines : List ℕ) (n : ℕ) → length (heights lines n) ≡ n
heights-length lines n = length-map (line_boxes lines n) height ∙ length-table (line_box lines) n

pub heights-below : (w h n : ℕ) (lines : List ℕ) → Lines w h n lines → Each (λ a. a < h + 1) (heights lines n)
heights-below w h n lines v =
    subst (Each (λ a. a < h + 1)) (sym (map-table height (line_box lines) n))
    (each-table (λ a. a < h + 1) (λ i. height (line_box lines i)) n (λ i l. let b = (v.boxes i l).bottom in omega arith))

-- Gaps

before-below : (overlap : Float) (cap h n : ℕ) (lines : List ℕ) (i : ℕ) → Each (λ g. g < h) (gaps_before overlap cap h n lines i)
unfolding gaps_before
before-below overlap cap h n lines zero = tt
before-below overlap cap h n lines (suc i) =
    each_append (λ g. g < h) (gaps_before overlap cap h n lines i) (below h (least_with h (gaps_from overlap cap (line_box lines i) lines n (i + 1)))) (before-below overlap cap h n lines i)
    (one (least_with h (gaps_from overlap cap (line_box lines i) lines n (i + 1))))
  where
    one : (g : ℕ) → Each (λ g. g < h) (below h g)
    one g = go (ltb g h) refl
      where
        go : (t : Bool) → ltb g h ≡ t → Each (λ g. g < h) (cond t (g ∷ []) [])
        go true e = (borrow.Author.Tests.ltb-true g h e, tt)
        go false e = tt

pub gaps-below : (overlap : Float) (cap w h n : ℕ) (lines : List ℕ) → Lines w h n lines → Each (λ g. g < h) (nearest_gaps overlap cap (line_boxes lines n))
gaps-below overlap cap w h n lines v = subst (Each (λ g. g < h)) (before-all overlap cap h n lines w v n refl) (before-below overlap cap h n lines n)

-- Both limits

pub limits-right : (p : LayoutParams) (ls : List Rect) (high cap typical most : ℕ) → high ≡ median (map height ls) → cap ≡ dots (p.block_max_gap_lines · float high)
    → typical ≡ median (nearest_gaps p.block_min_overlap cap ls) → most ≡ dots (add binary64 (float typical) (p.block_gap_margin_lines · float high))
    → (cap ≡ hard_cap p ls) × (most ≡ max_gap p ls)
unfolding hard_cap max_gap line_height
limits-right p ls high cap typical most eh ec et em =
    let c : cap ≡ hard_cap p ls = ec ∙ ap (λ k. dots (p.block_max_gap_lines · float k)) eh in
    let t : typical ≡ median (nearest_gaps p.block_min_overlap (hard_cap p ls) ls) = et ∙ ap (λ k. median (nearest_gaps p.block_min_overlap k ls)) c in
    (c, em ∙ (λ i. dots (add binary64 (float (t i)) (p.block_gap_margin_lines · float (eh i)))))

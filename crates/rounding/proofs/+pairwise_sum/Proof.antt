-- `pairwise_sum` calls itself on the two parts of its slice, which are shorter: the measure is the length.
use Rattle.std.proofs.Common.{◌≡◌, ℕ, ◌-◌, ◌<◌, List, length, take, drop, sym, ap, ◌∙◌, arith, length-drop, length-take, rules}
use borrow.Author.Rules.{scaled_Fits}
use borrow.Fn.Kinds.{In}
use borrow.Fn.PlainCycle.{Measures, is, falls, and}
use lib.Seq.{take-length}
use lib.Ieee.{Float, add, binary64}
use Rattle.rounding.specs.rules.Sums.{half, pairwise_sum}
use Rattle.rounding.proofs.SumLaws.{pairwise_sum-short, pairwise_sum-split}
use Rattle.rounding.proofs.block_sum.Reads as block-sum
use Rattle.rounding.proofs.pairwise_sum.Reads as pairwise-sum
use Rattle.rounding.proofs.pairwise_sum.Kinds as kinds
use Rattle.rounding.proofs.+pairwise_sum.Lts-pairwise_sum as lts
use Rattle.rounding.proofs.+pairwise_sum.{statement}
use Rattle.rounding.proofs.+pairwise_sum.Tie.{close}

abbrev μ : Measures 1 kinds.ps ℕ
μ κs a = length a.0.now

-- what `pairwise_sum` is given at the measure t, and what a call of it asks below t
abbrev at : ℕ → In 1 kinds.ps
at t = and 1 kinds.ps (is 1 kinds.ps μ t) pairwise-sum.Pre

abbrev below : ℕ → In 1 kinds.ps
below t = and 1 kinds.ps (falls 1 kinds.ps ◌<◌ μ t) pairwise-sum.Pre

abbrev claims : ℕ → lts.Claims
claims t = (block-sum.Asked, block-sum.Learnt, below t, pairwise-sum.Post)

-- the right part reaches to the end
right-whole : (xs : List Float) → take (length xs - half xs) (drop (half xs) xs) ≡ drop (half xs) xs
right-whole xs = ap (λ (n : ℕ). take n (drop (half xs) xs)) (sym (length-drop (half xs) xs)) ∙ take-length (drop (half xs) xs)

module _ (t : ℕ) where
  block-sum-requires : lts.Need-block_sum-requires (claims t) (at t) pairwise-sum.Post
  block-sum-requires c κs = tt

  left-counted : lts.Need-slice_bounds-pairwise_sum-end (claims t) (at t) pairwise-sum.Post
  left-counted c = simp length-take (omega arith)

  left-requires : lts.Need-pairwise_sum-left-requires (claims t) (at t) pairwise-sum.Post
  left-requires c κs = (simp length-take (omega arith), tt)

  right-start-fits : lts.Need-offset_bounds-values-half (claims t) (at t) pairwise-sum.Post
  right-start-fits c = scaled_Fits _ (length c.args.values.now) 8 (omega arith) c.well_formed.0.1

  right-length : lts.Need-slice_bounds-pairwise_sum-count (claims t) (at t) pairwise-sum.Post
  right-length c = search rules

  right-start : lts.Need-slice_bounds-pairwise_sum-start (claims t) (at t) pairwise-sum.Post
  right-start c = search rules

  right_end : lts.Need-slice_bounds-pairwise_sum-end-else-n-le-BLOCK (claims t) (at t) pairwise-sum.Post
  right_end c = search rules

  right-requires : lts.Need-pairwise_sum-right-requires (claims t) (at t) pairwise-sum.Post
  right-requires c κs = (simp (length-take, length-drop) (omega arith), tt)

  returns : lts.Need-returns-then-n-le-BLOCK (claims t) (at t) pairwise-sum.Post
  returns c = c.block_sum.ensures ∙ sym (pairwise_sum-short c.args.values.now c.if-n-le-BLOCK.true)

  returns-2 : lts.Need-returns-else-n-le-BLOCK (claims t) (at t) pairwise-sum.Post
  returns-2 c =
      let xs = c.args.values.now in
      (λ i. add binary64 (c.pairwise_sum-left.ensures i) ((c.pairwise_sum-right.ensures ∙ ap pairwise_sum (right-whole xs)) i))
      ∙ sym (pairwise_sum-split xs c.if-n-le-BLOCK.false)

pub +pairwise_sum_spec : {M : Type 1} → statement M
+pairwise_sum_spec =
    close μ
    (λ t. lts.spec (claims t) (at t) pairwise-sum.Post (block-sum-requires t) (left-counted t) (left-requires t) (right-start-fits t) (right-length t) (right-start t) (right_end t) (right-requires t) (returns t) (returns-2 t))

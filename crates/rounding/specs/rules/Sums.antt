-- The sum of floats in a fixed order.
use Rattle.std.specs.Prelude.{ℕ, zero, suc, ◌/◌, cond, List, [], ◌∷◌, length, take, drop, nat_le, Float}
use Rattle.std.specs.Float.{binary64}
use Rattle.std.specs.Float.Ieee.{add}
use Rattle.rounding.specs.rules.Rounding.{positive_zero}

-- the values added left to right to what there is (01, part 1)
unfoldable pub sum_from : Float → List Float → Float
sum_from sum [] = sum
sum_from sum (x ∷ xs) = sum_from (add binary64 sum x) xs

-- up to this many values are added left to right (01, part 1)
abbrev pub block : ℕ
block = 8

-- such a sum starts from 0.0 (01, part 1)
abbrev pub block_sum : List Float → Float
block_sum xs = sum_from positive_zero xs

-- where a longer list splits: half its length, rounded down (01, part 1)
abbrev pub half : List Float → ℕ
half xs = length xs / 2

-- a block is summed, a longer list splits, at most k times one in another
unfoldable pub sum_within : ℕ → List Float → Float
unfolding sum_from
sum_within zero xs = block_sum xs
sum_within (suc k) xs = cond (nat_le (length xs) block) (block_sum xs) (add binary64 (sum_within k (take (half xs) xs)) (sum_within k (drop (half xs) xs)))

-- the sum of a block, or of the two parts' sums (01, part 1). The length is splits enough: `pairwise_sum-short`, `pairwise_sum-split`
unfoldable pub pairwise_sum : List Float → Float
unfolding sum_within
pairwise_sum xs = sum_within (length xs) xs

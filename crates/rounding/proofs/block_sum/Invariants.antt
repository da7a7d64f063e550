use Rattle.std.proofs.Common.{◌≡◌, drop}
use Rattle.rounding.specs.rules.Sums.{sum_from, block_sum}
use Rattle.rounding.proofs.block_sum.Given as goal

abbrev pub invariant-loop-x : goal.invariant-loop-x
invariant-loop-x l = sum_from l.sum (drop l.x-index l.values) ≡ block_sum l.values

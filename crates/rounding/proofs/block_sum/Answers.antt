use Rattle.std.proofs.Common.{sym, ◌∙◌, rules}
use Rattle.rounding.proofs.SumLaws.{sum_from-next, sum_from-end}
use Rattle.rounding.proofs.block_sum.Goals as goal

pub loop-x-preserved : goal.loop-x-preserved
loop-x-preserved c =
    sum_from-next c.loop-x.sum c.args.values.now c.loop-x.x-index (search rules) ∙ c.loop-x.invariant

pub returns : goal.returns
returns c =
    sym (sum_from-end c.loop-x.sum c.args.values.now c.loop-x.x-index (search rules)) ∙ c.loop-x.invariant

use Rattle.labelling.proofs.NumberLaws.{number-none, number_more, number-stop}
use Rattle.labelling.proofs.number.number_runs.Goals as goal

pub loop-k-init : goal.loop-k-init
loop-k-init c = number-none _ _ _ c.requires.0 c.requires.1 c.requires.2

pub returns-then-capacity-count : goal.returns-then-capacity-count
returns-then-capacity-count c = number-stop c.loop-k.invariant c.loop-k-test.true c.number_one-count.new.parents c.number_one-count.result c.number_one-count.ensures c.if-capacity-count.true

pub loop-k-preserved : goal.loop-k-preserved
loop-k-preserved c = number_more c.loop-k.invariant c.loop-k-test.true c.number_one-count.new.parents c.number_one-count.result c.number_one-count.ensures c.if-capacity-count.false

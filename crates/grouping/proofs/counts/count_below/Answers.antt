use Rattle.grouping.proofs.TableWords.{below-counted}
use Rattle.grouping.proofs.counts.count_below.Goals as goal

pub returns-then-v-m : goal.returns-then-v-m
returns-then-v-m c = λ l s e. below-counted l s c.args.table.now c.args.m c.args.v c.if-v-m.true e

use native.Mathlib.Omega.{arith}
use lib.ListN.{length-set}
use Rattle.memory.specs.rules.Masks.{is_ink}
use Rattle.rulings.proofs.ColumnLaws.{counted-on-next}
use Rattle.rulings.proofs.columns.count_between.Goals as goal

pub loop-o-preserved : goal.loop-o-preserved
unfolding is_ink
loop-o-preserved c =
    let a = c.args in (
      counted-on-next a.ink.now a.row a.from c.loop-o.o c.count_on.result a.words.now c.loop-o.words (omega arith) (omega arith) c.count_on.ensures c.loop-o.invariant.0,
      simp length-set c.loop-o.invariant.1,
    )

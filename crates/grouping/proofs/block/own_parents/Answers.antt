use mathlib.Core.Path.{refl}
use lib.ListN.{length-set}
use Rattle.grouping.proofs.TableWords.{table_none, table_more}
use native.Mathlib.Omega.{arith}
use Rattle.grouping.proofs.block.own_parents.Goals as goal

pub loop-i-init : goal.loop-i-init
loop-i-init c = (table_none _ _, refl)

pub loop-i-preserved : goal.loop-i-preserved
loop-i-preserved c = (rw c.loop-i.invariant.0 (table_more (λ k. k) c.args.parents.now c.loop-i.i (omega arith)), simp length-set c.loop-i.invariant.1)

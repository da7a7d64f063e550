use mathlib.Core.Path.{refl}
use native.Mathlib.Omega.{arith}
use Rattle.memory.specs.rules.Lists.{table}
use Rattle.memory.proofs.TableLaws.{table_more}
use Rattle.levelling.proofs.shears.Shear.each_entry.Goals as goal

pub loop-i-init : goal.loop-i-init
unfolding table
loop-i-init c = refl

pub loop-i-preserved : goal.loop-i-preserved
loop-i-preserved c = table_more _ c.args.out.now c.loop-i.out c.loop-i.i c.entry.result (omega arith) c.loop-i.invariant c.entry.ensures

use mathlib.Core.Path.{refl}
use native.Mathlib.Omega.{arith}
use Rattle.memory.specs.rules.Lists.{table}
use Rattle.memory.proofs.TableLaws.{table_more, table-whole}
use Rattle.memory.proofs.words.fill.Goals as goal

pub loop-i-init : goal.loop-i-init
loop-i-init g c = unfold table in refl

pub loop-i-preserved : goal.loop-i-preserved
loop-i-preserved g c = table_more _ c.args.dst.now c.loop-i.dst c.loop-i.i c.args.v (omega arith) c.loop-i.invariant refl

pub returns : goal.returns
returns g c = table-whole _ c.args.dst.now c.loop-i.dst c.loop-i.i c.loop-i.invariant (omega arith)

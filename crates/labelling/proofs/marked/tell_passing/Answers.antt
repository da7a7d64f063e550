use borrow.Author.Rules.{rules}
use native.Mathlib.Omega.{arith}
use Rattle.memory.specs.rules.Masks.{is_ink}
use Rattle.labelling.proofs.ToldLaws.{told_more}
use Rattle.labelling.proofs.MarkedLaws.{passing-turn}
use Rattle.labelling.proofs.marked.tell_passing.Goals as goal

pub loop-i-preserved : goal.loop-i-preserved
unfolding is_ink
loop-i-preserved c = (omega arith, search rules, told_more c.loop-i.invariant.2 (omega arith) _ (passing-turn c.args.test c.args.ink.now c.args.marks.now 33 c.loop-i.i c.passes.result c.passes-in-loop-i.result (omega arith) c.passes.ensures c.passes-in-loop-i.ensures))

use borrow.Author.Rules.{rules}
use native.Mathlib.Omega.{arith}
use Rattle.labelling.proofs.ToldLaws.{told_more, turn_byte}
use Rattle.labelling.proofs.runs.tell_turns.Goals as goal

pub loop-i-preserved : goal.loop-i-preserved
loop-i-preserved c = (omega arith, search rules, told_more c.loop-i.invariant.2 (omega arith) _ (turn_byte c.args.dots.now c.loop-i.i))

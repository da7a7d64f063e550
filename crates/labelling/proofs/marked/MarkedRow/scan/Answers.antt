use lib.Dec.{eqb}
use Rattle.memory.specs.rules.Masks.{is_ink}
use Rattle.labelling.proofs.ExtractLaws.{byte-turn}
use Rattle.labelling.proofs.MarkedLaws.{marked-inside, marked_more, marked-done}
use Rattle.labelling.proofs.marked.MarkedRow.scan.Goals as goal

pub bounds-self-x : goal.bounds-self-x
bounds-self-x c = marked-inside c.loop-x.invariant c.loop-x-test.true

pub loop-x-preserved : goal.loop-x-preserved
unfolding is_ink
loop-x-preserved c = marked_more c.loop-x.invariant c.loop-x-test.true c.passes-here.result _ c.passes-here.ensures (byte-turn (eqb c.loop-x.before c.passes-here.result))

pub returns : goal.returns
returns c = marked-done c.loop-x.invariant c.loop-x-test.false

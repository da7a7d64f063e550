use lib.Dec.{eqb}
use Rattle.labelling.proofs.ExtractLaws.{byte-ink, byte-turn, sweep-more, sweep-done}
use Rattle.labelling.proofs.runs.Row.scan.Goals as goal

pub loop-x-preserved : goal.loop-x-preserved
loop-x-preserved c = sweep-more c.loop-x.invariant c.loop-x-test.true _ _ (byte-ink c.args.self.dots.now c.loop-x.x) (byte-turn (eqb c.loop-x.before _))

pub returns : goal.returns
returns c = sweep-done c.loop-x.invariant c.loop-x-test.false

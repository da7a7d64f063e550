use Rattle.scripts.specs.rules.Scripts.{outputs, result_reading}
use Rattle.scripts.proofs.ScriptLaws.{lent-planes}
use Rattle.scripts.proofs.playing.read_planes.Goals as goal

pub returns : goal.returns
returns c = λ is. lent-planes c.args.call.now c.args.store.now c.args.ink.now c.args.kinds.now _ _ c.cut-m.ensures c.cut-k.ensures (result_reading c.args.call.now (outputs c.args.words.now c.args.gray.now is c.args.numbers.now)) (c.read_results.ensures is)

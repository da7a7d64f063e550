use Rattle.scripts.proofs.PlayLaws.{called_at}
use Rattle.scripts.proofs.playing.nth.Goals as goal

pub returns : goal.returns
returns c =
    let a = c.args in
    called_at a.script.now a.i c.perform.ensures

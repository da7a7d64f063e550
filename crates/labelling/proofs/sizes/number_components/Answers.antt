use Rattle.labelling.proofs.SizeLaws.{numbers-done}
use Rattle.labelling.proofs.sizes.number_components.Goals as goal

pub returns : goal.returns
returns c = numbers-done c.requires c.link_runs.ensures c.number_runs.ensures

use Rattle.labelling.proofs.SizeLaws.{sizes-number, sizes-many, sizes-ask, sizes-done}
use Rattle.labelling.proofs.sizes.label_sizes.Goals as goal

pub number_components-count-requires : goal.number_components-count-requires
number_components-count-requires c = sizes-number c.requires.1

pub returns-then-capacity-count : goal.returns-then-capacity-count
returns-then-capacity-count c = λ m R. sizes-many R c.number_components-count.ensures c.if-capacity-count.true

pub size_runs-requires : goal.size_runs-requires
size_runs-requires c = sizes-ask c.requires.1 c.number_components-count.ensures c.if-capacity-count.false

pub returns : goal.returns
returns c = λ m R. sizes-done R c.number_components-count.ensures c.if-capacity-count.false c.size_runs.ensures

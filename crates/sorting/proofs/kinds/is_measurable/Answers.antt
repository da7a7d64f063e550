use Rattle.sorting.specs.rules.Units.{measurable, under_extents}
use Rattle.sorting.proofs.kinds.is_measurable.Goals as goal

pub returns : goal.returns
unfolding measurable under_extents
returns c = rw (c.height-height.ensures, c.width-width.ensures, c.rect-r.ensures)

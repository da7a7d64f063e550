use Rattle.labelling.proofs.RowSizeLaws.{plane-none, plane-more, plane-done}
use Rattle.labelling.proofs.sizes.SizeTable.size_runs.Goals as goal

pub loop-y-init : goal.loop-y-init
loop-y-init c = plane-none c.requires

pub loop-y-preserved : goal.loop-y-preserved
loop-y-preserved c = plane-more c.loop-y.invariant c.loop-y-test.true c.size_row-reached.ensures

pub returns : goal.returns
returns c = plane-done c.loop-y.invariant c.loop-y-test.false

use Rattle.labelling.proofs.ExtractLaws.{plane-none, plane-row, plane-more, plane-done}
use Rattle.labelling.proofs.runs.extract_runs.Goals as goal

pub loop-y-init : goal.loop-y-init
loop-y-init c = plane-none c.requires

pub extract-k-requires : goal.extract-k-requires
extract-k-requires c = plane-row c.loop-y.invariant c.loop-y-test.true

pub loop-y-preserved : goal.loop-y-preserved
loop-y-preserved c = plane-more c.loop-y.invariant c.loop-y-test.true _ _ c.extract-k.ensures

pub returns : goal.returns
returns c = plane-done c.loop-y.invariant c.loop-y-test.false

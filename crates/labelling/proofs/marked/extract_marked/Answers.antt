use Rattle.labelling.proofs.MarkedLaws.{marked-plane-none, marked_row, marked-row-more, marked-plane-done}
use Rattle.labelling.proofs.marked.extract_marked.Goals as goal

pub loop-y-init : goal.loop-y-init
loop-y-init c = marked-plane-none c.args.test c.requires

pub extract-k-requires : goal.extract-k-requires
extract-k-requires c = marked_row c.loop-y.invariant c.loop-y-test.true

pub loop-y-preserved : goal.loop-y-preserved
loop-y-preserved c = marked-row-more c.loop-y.invariant c.loop-y-test.true _ _ c.extract-k.ensures

pub returns : goal.returns
returns c = marked-plane-done c.loop-y.invariant c.loop-y-test.false

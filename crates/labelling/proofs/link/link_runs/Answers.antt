use Rattle.labelling.proofs.RunLinkLaws.{known-all, plane-none, plane-ahead, plane-more, plane-done}
use Rattle.labelling.proofs.link.link_runs.Goals as goal

pub loop-y-init : goal.loop-y-init
loop-y-init c = plane-none _ _ _ _ _ (known-all c.requires.0) c.requires.1 c.requires.2

pub link_row-next-requires : goal.link_row-next-requires
link_row-next-requires c = plane-ahead c.loop-y.invariant

pub loop-y-preserved : goal.loop-y-preserved
loop-y-preserved c = plane-more c.loop-y.invariant c.link_row-next.result c.link_row-next.ensures.row c.loop-y-test.true c.link_row-next.new.words c.link_row-next.ensures.linked

pub returns : goal.returns
returns c = plane-done c.loop-y.invariant c.loop-y-test.false

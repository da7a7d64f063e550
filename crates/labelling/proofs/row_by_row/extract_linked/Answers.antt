use Rattle.labelling.proofs.ExtractLaws.{plane-row}
use Rattle.labelling.proofs.RowLinkLaws.{link-none, link-asks, link-more, link-done}
use Rattle.labelling.proofs.row_by_row.extract_linked.Goals as goal

pub loop-y-init : goal.loop-y-init
loop-y-init c = link-none c.requires

pub extract-known-requires : goal.extract-known-requires
extract-known-requires c = plane-row c.loop-y.invariant.scan c.loop-y-test.true

pub link_row-next-requires : goal.link_row-next-requires
link_row-next-requires c = link-asks c.loop-y.invariant c.loop-y-test.true _ _ c.extract-known.ensures

pub loop-y-preserved : goal.loop-y-preserved
loop-y-preserved c = link-more c.loop-y.invariant c.loop-y-test.true _ _ c.extract-known.ensures c.link_row-next.new.words c.link_row-next.result c.link_row-next.ensures

pub returns : goal.returns
returns c = link-done c.loop-y.invariant c.loop-y-test.false

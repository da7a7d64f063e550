use Rattle.grouping.proofs.SpanLaws.{row-span}
use Rattle.grouping.proofs.spans.Page.row_span.Goals as goal

pub returns : goal.returns
returns c = row-span c.requires c.min-top.ensures c.min-bottom.ensures c.ends.ensures.0 c.ends.ensures.1 c.reach-columns.ensures.0 c.reach-columns.ensures.1 c.ends-rows.ensures.0 c.ends-rows.ensures.1 c.reach.ensures.0 c.reach.ensures.1

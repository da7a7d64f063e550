use Rattle.grouping.proofs.SpanLaws.{column-span}
use Rattle.grouping.proofs.spans.Page.column_span.Goals as goal

pub returns : goal.returns
returns c = column-span c.first_reached.ensures c.first_reached-2.ensures

use Rattle.labelling.proofs.ToldLaws.{chunk_count}
use Rattle.labelling.proofs.MarkedLaws.{chunk-high, chunk-passed, marked-written}
use Rattle.labelling.proofs.marked.MarkedRow.scan_chunk.Goals as goal

pub slice_bounds-count_chunk-end : goal.slice_bounds-count_chunk-end
slice_bounds-count_chunk-end c = chunk-high c.requires

pub returns-then-count-at : goal.returns-then-count-at
returns-then-count-at c = chunk-passed c.requires c.count_chunk-count.result c.count_chunk-count.ensures c.if-count-at.true

pub returns : goal.returns
returns c = marked-written c.requires _ (chunk_count _ _ _ (chunk-high c.requires) c.min-n.ensures) c.if-from-eq0.false c.tell_chunk.ensures c.write_turns.ensures

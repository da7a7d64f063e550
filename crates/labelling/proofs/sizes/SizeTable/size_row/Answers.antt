use mathlib.Core.Path.{refl}
use Rattle.labelling.proofs.RowSizeLaws.{row-start, row-span, row-asks, row_more}
use Rattle.labelling.proofs.sizes.SizeTable.size_row.Goals as goal

pub measure_span-span-requires : goal.measure_span-span-requires
measure_span-span-requires c = row-span c.requires.1 c.loop-k.invariant c.loop-k-test.true _ refl c.if-limit-start.false

pub overflow_sub-start : goal.overflow_sub-start
overflow_sub-start c = (row-start c.requires.1 c.loop-k.invariant c.loop-k-test.true _ refl).1

pub size_span-requires : goal.size_span-requires
size_span-requires c = row-asks c.requires.1 c.loop-k.invariant c.loop-k-test.true _ refl c.if-limit-start.false _ refl c.measure_span-span.ensures

pub loop-k-preserved : goal.loop-k-preserved
loop-k-preserved c = row_more c.requires.1 c.loop-k.invariant c.loop-k-test.true _ refl c.if-limit-start.false _ refl c.measure_span-span.ensures c.size_span.new.words c.max-count.result c.size_span.ensures c.max-count.ensures

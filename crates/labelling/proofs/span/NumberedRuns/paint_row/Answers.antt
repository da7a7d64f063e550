use mathlib.Core.Path.{refl}
use Rattle.labelling.proofs.RowPaintLaws.{row-span, row-asks, row_more}
use Rattle.labelling.proofs.span.NumberedRuns.paint_row.Goals as goal

pub paint_span-span-requires : goal.paint_span-span-requires
paint_span-span-requires c = (c.requires.0, row-span c.args.self.runs.now c.args.self.numbers.now c.requires.0 c.requires.1 c.loop-k.invariant c.loop-k-test.true _ refl c.if-limit-start.false)

pub tally_span-count-requires : goal.tally_span-count-requires
tally_span-count-requires c = row-asks c.args.self.runs.now c.args.self.numbers.now c.requires.0 c.requires.1 c.loop-k.invariant c.loop-k-test.true _ refl c.if-limit-start.false _ refl c.paint_span-span.ensures

pub loop-k-preserved : goal.loop-k-preserved
loop-k-preserved c = row_more c.args.self.runs.now c.args.self.numbers.now c.requires.0 c.requires.1 c.loop-k.invariant c.loop-k-test.true _ refl c.if-limit-start.false _ refl c.paint_span-span.ensures c.tally_span-count.new.components c.tally_span-count.result c.tally_span-count.ensures

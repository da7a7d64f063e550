use lib.Seq.{length-take-le}
use Rattle.grouping.specs.rules.Columns.{cover}
use Rattle.grouping.specs.stages.LineBoxes.{line_boxes}
use Rattle.grouping.proofs.CoverWords.{start-below, filled-steps, filled_at}
use native.Mathlib.Omega.{arith}
use Rattle.grouping.proofs.column.fill_cover.Goals as goal

pub count_field-requires : goal.count_field-requires
count_field-requires c = (c.requires.0.1.room, omega arith, c.requires.1, omega (arith, length-take-le c.args.w c.args.scratch.now (omega arith)), start-below c.args.lines.now c.args.n c.args.w c.requires.0.0 c.requires.0.1)

pub sum_cover-requires : goal.sum_cover-requires
sum_cover-requires c = (((cover (line_boxes c.args.lines.now c.args.n)), filled-steps c.args.lines.now c.args.n c.args.w c.requires.0.0 c.requires.0.1 c.requires.1 c.args.scratch.now c.count_field.new.table c.count_field-2.new.table c.requires.3 c.count_field.ensures c.count_field-2.ensures), c.requires.2)

pub returns : goal.returns
returns c = let e = c.sum_cover.ensures (cover (line_boxes c.args.lines.now c.args.n)) (filled-steps c.args.lines.now c.args.n c.args.w c.requires.0.0 c.requires.0.1 c.requires.1 c.args.scratch.now c.count_field.new.table c.count_field-2.new.table c.requires.3 c.count_field.ensures c.count_field-2.ensures) in
    (e.0, filled_at (cover (line_boxes c.args.lines.now c.args.n)) c.args.w c.sum_cover.new.counts _ e.1)

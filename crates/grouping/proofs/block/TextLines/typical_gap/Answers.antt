use Rattle.grouping.specs.rules.Blocks.{nearest_gaps}
use Rattle.grouping.specs.stages.LineBoxes.{line_boxes}
use Rattle.grouping.proofs.MedianWords.{counts_of, gaps-below}
use Rattle.grouping.proofs.block.TextLines.typical_gap.Goals as goal

pub returns : goal.returns
returns c = c.median_of_counts.ensures (nearest_gaps c.args.self.now.sheet.block_min_overlap c.args.cap (line_boxes c.args.self.now.words.now c.args.self.now.n)) (rw c.count_gaps-found.ensures.0 (counts_of _ c.args.table.now c.count_gaps-found.new.table c.args.self.now.h (gaps-below c.args.self.now.sheet.block_min_overlap c.args.cap c.requires.0.0 c.args.self.now.h c.args.self.now.n c.args.self.now.words.now c.requires.0.1) c.count_gaps-found.ensures.1))

use Rattle.grouping.specs.stages.LineBoxes.{line_boxes}
use Rattle.grouping.proofs.MedianWords.{limits-right}
use Rattle.grouping.proofs.block.TextLines.gap_limits.Goals as goal

pub returns : goal.returns
returns c = limits-right c.args.self.now.sheet (line_boxes c.args.self.now.words.now c.args.self.now.n) c.line_height-height.result c.round_to_u32-cap.result c.typical_gap-typical.result c.round_to_u32-most.result c.line_height-height.ensures c.round_to_u32-cap.ensures c.typical_gap-typical.ensures c.round_to_u32-most.ensures

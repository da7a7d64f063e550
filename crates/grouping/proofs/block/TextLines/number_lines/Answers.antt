use Rattle.grouping.specs.rules.Blocks.{block_number}
use Rattle.grouping.specs.stages.LineBoxes.{line_boxes}
use Rattle.grouping.proofs.CoverWords.{filled_at}
use Rattle.grouping.proofs.TogetherLaws.{joins-firsts, numbers-right}
use Rattle.grouping.proofs.block.TextLines.number_lines.Goals as goal

pub returns : goal.returns
returns c = let ls = line_boxes c.args.self.now.words.now c.args.self.now.n in
    numbers-right c.args.self.now.sheet c.args.self.now.n c.args.self.now.words.now _ c.join_lines.new.parents c.number_blocks.new.parents
    (joins-firsts c.args.self.now.sheet c.args.self.now.n c.args.self.now.words.now c.min-limit.result c.gap_limits-limits.result.cap c.gap_limits-limits.result.most c.min-limit.ensures c.gap_limits-limits.ensures.0 c.gap_limits-limits.ensures.1)
    c.join_lines.ensures
    (λ fs F l. filled_at (block_number fs) c.args.self.now.n c.number_blocks.new.parents c.join_lines.new.parents (c.number_blocks.ensures fs F l).1)

use Prim.Native.Nat.{◌+◌}
use mathlib.Core.Path.{subst}
use lib.ListN.{take}
use Rattle.sorting.specs.stages.Counts.{CountsOf}
use Rattle.grouping.proofs.MedianWords.{counts_of, heights, heights-length, heights-below}
use Rattle.grouping.proofs.block.TextLines.line_height.Goals as goal

pub returns : goal.returns
returns c = let n = heights-length c.args.self.now.words.now c.args.self.now.n in c.median_of_counts.ensures (heights c.args.self.now.words.now c.args.self.now.n) (subst (λ k. CountsOf (take (c.args.self.now.h + 1) c.count_heights.new.table) k (heights c.args.self.now.words.now c.args.self.now.n)) n (counts_of (heights c.args.self.now.words.now c.args.self.now.n) c.args.table.now c.count_heights.new.table (c.args.self.now.h + 1) (heights-below c.requires.0.0 c.args.self.now.h c.args.self.now.n c.args.self.now.words.now c.requires.0.1) c.count_heights.ensures))

use mathlib.Core.Path.{◌≡◌}
use lib.ListN.{length}
use Rattle.grouping.specs.stages.Joining.{joins}
use Rattle.grouping.proofs.PairLaws.{Rooted}
use Rattle.grouping.proofs.block.TextLines.join_after.Given as goal

abbrev pub invariant-loop-j : goal.invariant-loop-j
invariant-loop-j l = (length l.parents ≡ length l.initial.parents) × Rooted (joins l.self.sheet.block_min_overlap l.limit l.self.words.now) l.self.n l.parents l.i l.j l.root

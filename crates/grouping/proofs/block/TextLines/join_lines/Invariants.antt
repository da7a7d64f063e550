use Prim.Native.Nat.{◌+◌}
use mathlib.Core.Path.{◌≡◌}
use lib.ListN.{length}
use Rattle.grouping.specs.stages.Joining.{joins, Joined}
use Rattle.grouping.proofs.block.TextLines.join_lines.Given as goal

abbrev pub invariant-loop-i : goal.invariant-loop-i
invariant-loop-i l = (length l.parents ≡ length l.initial.parents) × Joined (joins l.self.sheet.block_min_overlap l.limit l.self.words.now) l.self.n l.parents l.i (l.i + 1)

use Prim.Native.Nat.{◌+◌}
use mathlib.Core.Path.{◌≡◌}
use Rattle.grouping.specs.stages.Joining.{least_with}
use Rattle.grouping.proofs.GapLaws.{gaps_from}
use Rattle.grouping.proofs.block.TextLines.nearest_gap.Given as goal

abbrev pub invariant-loop-j : goal.invariant-loop-j
invariant-loop-j l = (least_with l.self.h (gaps_from l.self.sheet.block_min_overlap l.cap l.a l.self.words.now l.self.n (l.i + 1)) ≡ least_with l.nearest (gaps_from l.self.sheet.block_min_overlap l.cap l.a l.self.words.now l.self.n l.j))

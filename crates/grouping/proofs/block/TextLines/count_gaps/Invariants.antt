use mathlib.Core.Path.{◌≡◌}
use lib.ListN.{length}
use Rattle.memory.specs.rules.Words.{over}
use Rattle.grouping.specs.stages.Counts.{counts}
use Rattle.grouping.proofs.GapLaws.{gaps_before}
use Rattle.grouping.proofs.block.TextLines.count_gaps.Given as goal

abbrev pub invariant-loop-i : goal.invariant-loop-i
invariant-loop-i l = (length l.table ≡ length l.initial.table) × (l.found ≡ length (gaps_before l.self.sheet.block_min_overlap l.cap l.self.h l.self.n l.self.words.now l.i)) × (l.table ≡ over (counts (gaps_before l.self.sheet.block_min_overlap l.cap l.self.h l.self.n l.self.words.now l.i) l.self.h) l.initial.table)

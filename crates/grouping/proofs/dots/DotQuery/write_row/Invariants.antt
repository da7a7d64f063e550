use Prim.Native.Nat.{ℕ, ◌+◌, ◌*◌, ◌≤◌}
use mathlib.Core.Path.{◌≡◌}
use mathlib.Core.List.{List}
use lib.ListN.{length}
use Rattle.memory.specs.rules.Lists.{count_if, keep, upto}
use Rattle.memory.specs.rules.Words.{over}
use Rattle.grouping.specs.rules.Readings.{columns_and_rows}
use Rattle.grouping.specs.stages.Dots.{asked}
use Rattle.grouping.proofs.dots.DotQuery.write_row.Given as goal

abbrev pub invariant-loop-c : goal.invariant-loop-c
invariant-loop-c l = (l.c ≤ l.self.page.sides.page_w) × (length l.out ≡ length l.initial.out) × (l.m ≡ count_if (asked l.self) (l.y * l.self.page.sides.page_w + l.c)) × ((s : List ℕ) → l.initial.out ≡ over (columns_and_rows l.self.page.sides.page_w (keep (asked l.self) (upto (l.y * l.self.page.sides.page_w)))) s → l.out ≡ over (columns_and_rows l.self.page.sides.page_w (keep (asked l.self) (upto (l.y * l.self.page.sides.page_w + l.c)))) s)

use Prim.Native.Nat.{◌+◌, ◌*◌, ◌≤◌}
use mathlib.Core.Path.{◌≡◌}
use Rattle.memory.specs.rules.Lists.{count_if}
use Rattle.grouping.specs.stages.Dots.{asked}
use Rattle.grouping.proofs.dots.DotQuery.count_row.Given as goal

abbrev pub invariant-loop-c : goal.invariant-loop-c
invariant-loop-c l = (l.c ≤ l.self.page.sides.page_w) × (l.m ≡ count_if (asked l.self) (l.y * l.self.page.sides.page_w + l.c))

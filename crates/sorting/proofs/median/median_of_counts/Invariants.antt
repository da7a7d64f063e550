use mathlib.Core.Path.{◌≡◌}
use Prim.Native.Nat.{◌≤◌}
use lib.ListN.{take}
use Rattle.memory.specs.rules.Lists.{total}
use Rattle.memory.specs.rules.Lists as Lists
use Rattle.sorting.proofs.median.median_of_counts.Given as goal

abbrev pub invariant-loop-v : goal.invariant-loop-v
invariant-loop-v l = (l.below ≤ l.half) × (l.below ≡ Lists.total (take l.v l.counts))

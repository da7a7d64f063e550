use mathlib.Core.Path.{◌≡◌}
use mathlib.Core.List.{◌++◌}
use lib.ListN.{length, drop}
use Rattle.memory.specs.rules.Lists.{table}
use Rattle.grouping.proofs.block.own_parents.Given as goal

abbrev pub invariant-loop-i : goal.invariant-loop-i
invariant-loop-i l = (l.parents ≡ table (λ k. k) l.i ++ drop l.i l.initial.parents) × (length l.parents ≡ length l.initial.parents)

use mathlib.Core.Path.{◌≡◌}
use mathlib.Core.List.{◌++◌}
use Prim.Native.Nat.{◌+◌}
use lib.ListN.{drop}
use Rattle.memory.specs.rules.Lists.{table}
use Rattle.levelling.specs.stages.Entries.{entry_of}
use Rattle.levelling.proofs.shears.Shear.each_entry.Given as goal

abbrev pub invariant-loop-i : goal.invariant-loop-i
invariant-loop-i l = l.out ≡ table (λ k. entry_of l.self.which l.self.slope l.self.least (l.c + k)) l.i ++ drop l.i l.initial.out

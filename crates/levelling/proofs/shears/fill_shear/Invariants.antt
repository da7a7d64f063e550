use mathlib.Core.Path.{◌≡◌}
use mathlib.Core.List.{◌++◌}
use Prim.Native.Nat.{◌*◌, min}
use lib.ListN.{drop}
use Rattle.memory.specs.rules.Lists.{table}
use Rattle.levelling.specs.stages.Entries.{entry_of}
use Rattle.levelling.proofs.shears.fill_shear.Given as goal

abbrev pub invariant-loop-step : goal.invariant-loop-step
invariant-loop-step l = l.out ≡ table (entry_of l.shear.which l.shear.slope l.shear.least) (min (l.step * 16) l.n) ++ drop (min (l.step * 16) l.n) l.initial.out

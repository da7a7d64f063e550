use mathlib.Core.Path.{◌≡◌}
use mathlib.Core.List.{◌++◌}
use lib.ListN.{drop}
use Rattle.memory.specs.rules.Lists.{table}
use Rattle.memory.proofs.words.fill.Given as goal

abbrev pub invariant-loop-i : goal.invariant-loop-i
invariant-loop-i g l = l.dst ≡ table (λ _. l.v) l.i ++ drop l.i l.initial.dst

use mathlib.Core.Path.{◌≡◌}
use mathlib.Core.List.{◌++◌}
use lib.ListN.{drop}
use Rattle.memory.specs.rules.Lists.{table}
use Rattle.showing.specs.rules.Inputs.{dot_at}
use Rattle.showing.proofs.rows.fill_mask.Given as goal

abbrev pub invariant-loop-i : goal.invariant-loop-i
invariant-loop-i l = l.page ≡ table (dot_at l.s l.w) l.i ++ drop l.i l.initial.page

use mathlib.Core.Path.{◌≡◌}
use mathlib.Core.List.{◌++◌}
use lib.ListN.{drop}
use Rattle.memory.specs.rules.Lists.{table}
use Rattle.extents.specs.stages.Scans.{single_dot}
use Rattle.extents.proofs.rows.single_dots.Given as goal

abbrev pub invariant-loop-i : goal.invariant-loop-i
invariant-loop-i l = l.extents ≡ table (single_dot l.row) l.i ++ drop l.i l.initial.extents

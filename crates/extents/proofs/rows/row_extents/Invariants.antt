use Prim.Native.Nat.{◌*◌}
use mathlib.Core.Path.{◌≡◌}
use lib.ListN.{get_or}
use Rattle.memory.specs.rules.Lists.{table}
use Rattle.memory.specs.rules.Words.{over}
use Rattle.extents.specs.stages.Scans.{row_extent, until}
use Rattle.extents.proofs.rows.row_extents.Given as goal

abbrev pub invariant-loop-y : goal.invariant-loop-y
invariant-loop-y l = l.extents ≡ over (table (until (l.y * l.width) (row_extent l.width l.mask) (λ k. get_or l.initial.extents k 0)) (l.width * l.height)) l.initial.extents

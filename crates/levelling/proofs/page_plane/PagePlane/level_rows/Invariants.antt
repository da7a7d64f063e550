use mathlib.Core.Path.{◌≡◌}
use mathlib.Core.List.{◌++◌}
use Prim.Native.Nat.{◌*◌}
use lib.ListN.{drop}
use Rattle.memory.specs.rules.Lists.{table}
use Rattle.levelling.specs.stages.Held.{frame_held}
use Rattle.levelling.proofs.RowLaws.{plane_at}
use Rattle.levelling.proofs.page_plane.PagePlane.level_rows.Given as goal

abbrev pub invariant-loop-r : goal.invariant-loop-r
invariant-loop-r l = l.out ≡ table (plane_at (frame_held l.self) l.self.fill l.self.page.now) (l.r * l.w) ++ drop (l.r * l.w) l.initial.out

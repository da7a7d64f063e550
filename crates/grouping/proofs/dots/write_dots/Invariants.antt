use Prim.Native.Nat.{◌*◌, ◌≤◌}
use mathlib.Core.Path.{◌≡◌}
use lib.ListN.{length}
use Rattle.memory.specs.rules.Lists.{count_if, keep, upto}
use Rattle.memory.specs.rules.Words.{over}
use Rattle.grouping.specs.rules.Readings.{listed, columns_and_rows}
use Rattle.grouping.specs.stages.Dots.{frame_by}
use Rattle.grouping.proofs.dots.write_dots.Given as goal

abbrev pub invariant-loop-y : goal.invariant-loop-y
invariant-loop-y l = (l.y ≤ l.q.page.sides.page_h) × (length l.out ≡ length l.initial.out) × (l.n ≡ count_if (listed (frame_by l.q.page.sides l.shear l.shear_x) l.kinds l.q.kind l.q.r) (l.y * l.q.page.sides.page_w)) × (l.out ≡ over (columns_and_rows l.q.page.sides.page_w (keep (listed (frame_by l.q.page.sides l.shear l.shear_x) l.kinds l.q.kind l.q.r) (upto (l.y * l.q.page.sides.page_w)))) l.initial.out)

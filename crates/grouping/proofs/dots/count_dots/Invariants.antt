use Prim.Native.Nat.{◌*◌, ◌≤◌}
use mathlib.Core.Path.{◌≡◌}
use Rattle.memory.specs.rules.Lists.{count_if}
use Rattle.grouping.specs.rules.Readings.{listed}
use Rattle.grouping.specs.stages.Dots.{frame_by}
use Rattle.grouping.proofs.dots.count_dots.Given as goal

abbrev pub invariant-loop-y : goal.invariant-loop-y
invariant-loop-y l = (l.y ≤ l.q.page.sides.page_h) × (l.n ≡ count_if (listed (frame_by l.q.page.sides l.shear l.shear_x) l.kinds l.q.kind l.q.r) (l.y * l.q.page.sides.page_w))

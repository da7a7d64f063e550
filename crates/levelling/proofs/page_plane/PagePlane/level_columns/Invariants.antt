use Prim.Native.Nat.{◌-◌, ◌≤◌}
use Rattle.levelling.proofs.RowLaws.{RightTo}
use Rattle.levelling.proofs.page_plane.PagePlane.level_columns.Given as goal

abbrev pub invariant-loop-c : goal.invariant-loop-c
invariant-loop-c l = (l.c ≤ l.page_w) × RightTo l.self.page.now l.self.fill l.self.sides.page_w l.self.sides.page_h l.self.shear.now l.r l.c l.out

abbrev pub decreases-loop-c : goal.decreases-loop-c
decreases-loop-c l = l.page_w - l.c

use Prim.Native.Nat.{ℕ, ◌-◌, ◌≤◌, ◌<◌}
use mathlib.Core.Path.{◌≡◌}
use mathlib.Core.Bool.{true, false}
use Rattle.levelling.specs.rules.Frames.{row_of, column_of}
use Rattle.grouping.specs.stages.Dots.{page_frame, is_short}
use Rattle.grouping.proofs.spans.Page.first_reached.Given as goal

abbrev pub invariant-loop-low : goal.invariant-loop-low
invariant-loop-low l = (l.low ≤ l.high) × (l.high ≤ l.self.sides.page_w) × ((c : ℕ) → c < l.low → is_short l.end.r l.end.falls l.end.start (column_of (page_frame l.self) c l.y) (row_of (page_frame l.self) c l.y) ≡ true) × ((c : ℕ) → l.high ≤ c → c < l.self.sides.page_w → is_short l.end.r l.end.falls l.end.start (column_of (page_frame l.self) c l.y) (row_of (page_frame l.self) c l.y) ≡ false)

abbrev pub decreases-loop-low : goal.decreases-loop-low
decreases-loop-low l = l.high - l.low

use mathlib.Core.Path.{◌≡◌}
use Prim.Native.Nat.{ℕ, ◌<◌, ◌+◌}
use lib.ListN.{length, get_or}
use Rattle.extents.specs.stages.Bands.{count_from}
use Rattle.extents.proofs.bands.Plane.count_columns.Given as goal

abbrev pub invariant-loop-r : goal.invariant-loop-r
invariant-loop-r l = (k : ℕ) → k < length l.initial.counts → get_or l.counts k 0 ≡ count_from l.self.w l.self.mask.now l.y (l.x + k) l.r

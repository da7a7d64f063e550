use mathlib.Core.Path.{◌≡◌}
use Prim.Native.Nat.{◌≤◌, ◌<◌}
use lib.ListN.{length}
use Rattle.memory.specs.rules.Masks.{is_ink}
use Rattle.extents.specs.rules.Extents.{extent}
use Rattle.extents.specs.stages.Scans.{RowCounted}
use Rattle.extents.proofs.crowded.Part.take_back.Given as goal

abbrev pub invariant-loop-i : goal.invariant-loop-i
invariant-loop-i l = (l.self.x ≤ l.i) × RowCounted l.self.row.now l.self.x l.i l.self.to l.extents × (l.i < l.self.to → l.later ≡ extent (is_ink l.self.row.now) (length l.self.row.now) l.i)

use mathlib.Core.Path.{◌≡◌}
use mathlib.Core.Bool.{true}
use Prim.Native.Nat.{suc, ◌-◌, ◌≤◌}
use Rattle.memory.specs.rules.Masks.{is_ink}
use Rattle.extents.specs.rules.Extents.{behind}
use Rattle.extents.specs.stages.Scans.{RowParts, single_dot}
use Rattle.extents.proofs.crowded.Part.count_on.Given as goal

abbrev pub invariant-loop-i : goal.invariant-loop-i
invariant-loop-i l = (l.count ≤ l.i - l.self.x) × RowParts l.self.row.now l.self.x l.i l.self.to (λ k. behind (is_ink l.self.row.now) (suc k)) (single_dot l.self.row.now) l.extents × (is_ink l.self.row.now l.i ≡ true → l.count ≡ behind (is_ink l.self.row.now) l.i)

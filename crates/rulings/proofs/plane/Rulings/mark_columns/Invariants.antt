use mathlib.Core.Bool.{false}
use mathlib.Core.Path.{◌≡◌}
use Prim.Native.Nat.{◌-◌, ◌≤◌}
use lib.ListN.{drop, length}
use Rattle.rulings.specs.stages.Sweeps.{Risen}
use Rattle.rulings.proofs.plane.Rulings.mark_columns.Given as goal

abbrev pub invariant-loop-a : goal.invariant-loop-a
invariant-loop-a l = (l.a ≤ l.self.plane.sweep.outer) × (Risen l.self.plane.sweep l.self.plane.ink.now l.self.run_min l.self.thick_max 0 l.a 0 l.self.plane.sweep.inner (drop l.self.marks l.initial.words) (drop l.self.marks l.words)) × (length l.words ≡ length l.initial.words) × (l.found ≡ false → drop l.self.marks l.words ≡ drop l.self.marks l.initial.words)

abbrev pub decreases-loop-a : goal.decreases-loop-a
decreases-loop-a l = l.self.plane.sweep.outer - l.a

use Prim.Native.Nat.{◌-◌, ◌<◌, ◌≤◌, ℕ}
use Rattle.extents.specs.rules.Extents.{run_through}
use Rattle.extents.specs.stages.Scans.{Starts}
use Rattle.rulings.specs.stages.Sweeps.{widened_scanline}
use Rattle.rulings.proofs.plane.Plane.has_long_run.Given as goal

abbrev pub invariant-loop-x : goal.invariant-loop-x
invariant-loop-x l = (l.x ≤ l.self.sweep.inner) × (Starts (widened_scanline l.self.sweep l.self.ink.now l.o) l.x) × ((i : ℕ) → i < l.x → run_through (widened_scanline l.self.sweep l.self.ink.now l.o) l.self.sweep.inner i < l.run_min)

abbrev pub decreases-loop-x : goal.decreases-loop-x
decreases-loop-x l = l.self.sweep.inner - l.x

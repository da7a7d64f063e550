use mathlib.Core.Path.{◌≡◌}
use mathlib.Core.Bool.{true}
use Prim.Native.Nat.{ℕ, ◌≤◌, ◌<◌}
use Rattle.rulings.specs.stages.Sweeps.{widened_scanline}
use Rattle.rulings.proofs.plane.Plane.run_start.Given as goal

abbrev pub invariant-loop-s : goal.invariant-loop-s
invariant-loop-s l = ((k : ℕ) → l.s ≤ k → k < l.to → widened_scanline l.self.sweep l.self.ink.now l.o k ≡ true)

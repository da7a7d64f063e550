use mathlib.Core.Path.{◌≡◌}
use mathlib.Core.Bool.{true, false}
use Prim.Native.Nat.{ℕ, ◌+◌, ◌*◌, ◌≤◌, ◌<◌}
use lib.ListN.{length, take, drop}
use Rattle.rulings.specs.stages.Sweeps.{widened_scanline, is_thin, Marked, Cached}
use Rattle.rulings.proofs.plane.Rulings.cut_on.Given as goal

abbrev pub invariant-loop-i : goal.invariant-loop-i
invariant-loop-i l = ((k : ℕ) → l.from ≤ k → k < l.i → widened_scanline l.self.plane.sweep l.self.plane.ink.now l.o k ≡ true) × (Marked l.self.plane.sweep (length l.self.plane.ink.now) (is_thin l.self.plane.sweep l.self.plane.ink.now l.self.thick_max) 1 (drop l.self.marks l.initial.words) (drop l.self.marks l.words) (l.o * l.self.plane.sweep.inner + l.from) (l.o * l.self.plane.sweep.inner + l.i)) × (Cached l.self.plane.sweep l.self.plane.ink.now l.self.thick_max l.o (take l.self.marks l.words)) × (length l.words ≡ length l.initial.words) × (l.found ≡ false → drop l.self.marks l.words ≡ drop l.self.marks l.initial.words)

use mathlib.Core.Bool.{false}
use mathlib.Core.Path.{◌≡◌}
use Prim.Native.Nat.{◌*◌, ◌+◌}
use lib.ListN.{drop, length, take}
use Rattle.rulings.specs.stages.Sweeps.{Marked, is_thin}
use Rattle.rulings.proofs.plane.Rulings.cut_places.Given as goal

abbrev pub invariant-loop-i : goal.invariant-loop-i
invariant-loop-i l = (Marked l.self.plane.sweep (length l.self.plane.ink.now) (is_thin l.self.plane.sweep l.self.plane.ink.now l.self.thick_max) 2 (drop l.self.marks l.initial.words) (drop l.self.marks l.words) (l.o * l.self.plane.sweep.inner + l.from) (l.o * l.self.plane.sweep.inner + l.i)) × (take l.self.marks l.words ≡ take l.self.marks l.initial.words) × (length l.words ≡ length l.initial.words) × (l.found ≡ false → drop l.self.marks l.words ≡ drop l.self.marks l.initial.words)

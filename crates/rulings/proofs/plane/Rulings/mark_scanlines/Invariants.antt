use mathlib.Core.Bool.{false}
use mathlib.Core.Path.{◌≡◌}
use Prim.Native.Nat.{◌*◌}
use lib.ListN.{length, take, drop}
use Rattle.rulings.specs.stages.Sweeps.{is_ruling, Marked, Cached}
use Rattle.rulings.proofs.plane.Rulings.mark_scanlines.Given as goal

abbrev pub invariant-loop-o : goal.invariant-loop-o
invariant-loop-o l = (Marked l.self.plane.sweep (length l.self.plane.ink.now) (is_ruling l.self.plane.sweep l.self.plane.ink.now l.self.run_min l.self.thick_max) 1 (drop l.self.marks l.initial.words) (drop l.self.marks l.words) 0 (l.o * l.self.plane.sweep.inner)) × (Cached l.self.plane.sweep l.self.plane.ink.now l.self.thick_max l.o (take l.self.marks l.words)) × (length l.words ≡ length l.initial.words) × (l.found ≡ false → drop l.self.marks l.words ≡ drop l.self.marks l.initial.words)

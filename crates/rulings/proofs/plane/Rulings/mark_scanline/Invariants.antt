use mathlib.Core.Bool.{false}
use mathlib.Core.Path.{◌≡◌}
use Prim.Native.Nat.{◌+◌, ◌*◌, ◌-◌, ◌≤◌}
use lib.ListN.{length, take, drop}
use Rattle.extents.specs.stages.Scans.{Starts}
use Rattle.rulings.specs.stages.Sweeps.{widened_scanline, is_ruling, Marked, Cached}
use Rattle.rulings.proofs.plane.Rulings.mark_scanline.Given as goal

abbrev pub invariant-loop-x : goal.invariant-loop-x
invariant-loop-x l = (l.x ≤ l.self.plane.sweep.inner) × (Starts (widened_scanline l.self.plane.sweep l.self.plane.ink.now l.o) l.x) × (Marked l.self.plane.sweep (length l.self.plane.ink.now) (is_ruling l.self.plane.sweep l.self.plane.ink.now l.self.run_min l.self.thick_max) 1 (drop l.self.marks l.initial.words) (drop l.self.marks l.words) (l.o * l.self.plane.sweep.inner) (l.o * l.self.plane.sweep.inner + l.x)) × (Cached l.self.plane.sweep l.self.plane.ink.now l.self.thick_max l.o (take l.self.marks l.words)) × (length l.words ≡ length l.initial.words) × (l.found ≡ false → drop l.self.marks l.words ≡ drop l.self.marks l.initial.words)

abbrev pub decreases-loop-x : goal.decreases-loop-x
decreases-loop-x l = l.self.plane.sweep.inner - l.x

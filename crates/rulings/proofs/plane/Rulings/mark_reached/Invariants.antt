use mathlib.Core.Bool.{false}
use mathlib.Core.Path.{◌≡◌}
use Prim.Native.Nat.{◌+◌}
use lib.ListN.{drop, length, take}
use Rattle.rulings.specs.stages.Sweeps.{Risen}
use Rattle.rulings.proofs.plane.Rulings.mark_reached.Given as goal

abbrev pub invariant-loop-o : goal.invariant-loop-o
invariant-loop-o l = (Risen l.self.plane.sweep l.self.plane.ink.now l.self.run_min l.self.thick_max l.a l.o l.y (l.y + 1) (drop l.self.marks l.initial.words) (drop l.self.marks l.words)) × (take l.self.marks l.words ≡ take l.self.marks l.initial.words) × (length l.words ≡ length l.initial.words) × (l.found ≡ false → drop l.self.marks l.words ≡ drop l.self.marks l.initial.words)

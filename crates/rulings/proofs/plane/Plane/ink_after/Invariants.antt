use mathlib.Core.Path.{◌≡◌}
use Prim.Native.Nat.{◌+◌, ◌-◌}
use Rattle.extents.specs.rules.Extents.{ahead}
use Rattle.rulings.specs.stages.Sweeps.{plane_of}
use Rattle.rulings.proofs.plane.Plane.ink_after.Given as goal

abbrev pub invariant-loop-n : goal.invariant-loop-n
invariant-loop-n l = (ahead (plane_of l.self.sweep l.self.ink.now l.i) l.o (l.self.sweep.outer - l.o) ≡ l.n + ahead (plane_of l.self.sweep l.self.ink.now l.i) (l.o + l.n) (l.self.sweep.outer - l.o - l.n))

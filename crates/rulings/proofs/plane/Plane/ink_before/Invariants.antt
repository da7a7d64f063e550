use mathlib.Core.Path.{◌≡◌}
use Prim.Native.Nat.{◌+◌, ◌-◌}
use Rattle.extents.specs.rules.Extents.{behind}
use Rattle.rulings.specs.stages.Sweeps.{plane_of}
use Rattle.rulings.proofs.plane.Plane.ink_before.Given as goal

abbrev pub invariant-loop-n : goal.invariant-loop-n
invariant-loop-n l = (behind (plane_of l.self.sweep l.self.ink.now l.i) l.o ≡ l.n + behind (plane_of l.self.sweep l.self.ink.now l.i) (l.o - l.n))

use mathlib.Core.Bool.{false}
use mathlib.Core.Path.{◌≡◌}
use lib.ListN.{drop, length}
use Rattle.rulings.specs.stages.Sweeps.{Counted, Risen}
use Rattle.rulings.proofs.plane.Rulings.mark_rows.Given as goal

abbrev pub invariant-loop-y : goal.invariant-loop-y
invariant-loop-y l = (Risen l.self.plane.sweep l.self.plane.ink.now l.self.run_min l.self.thick_max l.a l.b 0 l.y (drop l.self.marks l.initial.words) (drop l.self.marks l.words)) × (Counted l.self.plane.sweep l.self.plane.ink.now l.a l.b l.y l.words) × (length l.words ≡ length l.initial.words) × (l.found ≡ false → drop l.self.marks l.words ≡ drop l.self.marks l.initial.words)

use mathlib.Core.Path.{◌≡◌}
use Prim.Native.Nat.{◌≤◌}
use lib.ListN.{length}
use Rattle.labelling.specs.stages.Extraction.{TurnsTold}
use Rattle.labelling.specs.stages.Marked.{passing}
use Rattle.labelling.proofs.marked.tell_passing.Given as goal

abbrev pub invariant-loop-i : goal.invariant-loop-i
invariant-loop-i l = (l.i ≤ 32) × (length l.told ≡ 32) × TurnsTold (passing l.test l.ink l.marks 33) l.told l.i

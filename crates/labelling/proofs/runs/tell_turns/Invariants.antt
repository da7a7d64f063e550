use Prim.Native.Nat.{◌≤◌}
use mathlib.Core.Path.{◌≡◌}
use lib.ListN.{length}
use Rattle.labelling.specs.stages.Extraction.{TurnsTold}
use Rattle.labelling.proofs.runs.tell_turns.Given as goal

abbrev pub invariant-loop-i : goal.invariant-loop-i
invariant-loop-i l = (l.i ≤ 32) × (length l.told ≡ 32) × TurnsTold l.dots l.told l.i

use Prim.Native.Nat.{ℕ, ◌-◌, ◌*◌, ◌≤◌}
use mathlib.Core.Path.{◌≡◌}
use Rattle.labelling.specs.stages.Extraction.{ToldWritten}
use Rattle.labelling.proofs.runs.write_turns.Given as goal

abbrev pub invariant-loop-i : goal.invariant-loop-i
invariant-loop-i l = (l.i ≤ l.n) × ToldWritten l.told l.i l.start l.initial.words l.words l.at l.k × ((q : ℕ) × (l.i ≡ 4 * q))

abbrev pub decreases-loop-i : goal.decreases-loop-i
decreases-loop-i l = l.n - l.i

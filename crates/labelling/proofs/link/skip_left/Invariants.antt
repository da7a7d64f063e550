use Prim.Native.Nat.{ℕ, ◌-◌, ◌≤◌, ◌<◌}
use Rattle.labelling.specs.stages.InkRuns.{end_of}
use Rattle.labelling.proofs.link.skip_left.Given as goal

abbrev pub invariant-loop-k : goal.invariant-loop-k
invariant-loop-k l = (l.i ≤ l.k) × (l.k ≤ l.to) × ((a : ℕ) → l.i ≤ a → a < l.k → end_of l.runs 0 a < l.start)

abbrev pub decreases-loop-k : goal.decreases-loop-k
decreases-loop-k l = l.to - l.k

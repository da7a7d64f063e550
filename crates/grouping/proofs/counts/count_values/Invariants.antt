use mathlib.Core.Path.{◌≡◌}
use Prim.Native.Nat.{ℕ, ◌<◌}
use Rattle.memory.specs.rules.Lists.{table}
use Rattle.memory.specs.rules.Words.{over}
use Rattle.grouping.specs.stages.Counts.{counts}
use Rattle.grouping.proofs.counts.count_values.Given as goal

abbrev pub invariant-loop-i : goal.invariant-loop-i
invariant-loop-i g l = (f : ℕ → ℕ) → ((i v : ℕ) → i < l.n → goal.F-post g l.value i v → v ≡ f i) → l.tally ≡ over (counts (table f l.i) l.m) l.initial.tally

use mathlib.Core.Path.{◌≡◌}
use Rattle.memory.specs.rules.Lists.{table, total}
use Rattle.sorting.specs.stages.Measures.{sized_at}
use Rattle.sorting.proofs.measure.total_area.Given as goal

abbrev pub invariant-loop-k : goal.invariant-loop-k
invariant-loop-k l = l.sum ≡ total (table (λ k. (sized_at l.words l.sizes k).area) l.k)

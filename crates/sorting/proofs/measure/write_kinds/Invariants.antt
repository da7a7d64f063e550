use Rattle.sorting.specs.rules.Units.{unit_value}
use Rattle.sorting.specs.rules.Kinds.{kind_of}
use Rattle.memory.specs.stages.Stored.{Stored}
use Rattle.sorting.specs.stages.Measures.{sized_at}
use Rattle.sorting.proofs.measure.write_kinds.Given as goal

abbrev pub invariant-loop-k : goal.invariant-loop-k
invariant-loop-k l = Stored (λ k. kind_of l.sheet (unit_value l.unit) l.plan.width l.plan.height (sized_at l.initial.words l.plan.sizes k)) l.plan.kinds l.k l.initial.words l.words

use Rattle.labelling.proofs.NumberLaws.{NumberSweep}
use Rattle.labelling.proofs.number.number_runs.Given as goal

abbrev pub invariant-loop-k : goal.invariant-loop-k
invariant-loop-k l = NumberSweep l.c l.capacity l.initial.parents l.parents l.k l.count

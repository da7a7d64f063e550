use Rattle.levelling.specs.stages.Moves.{Plateaus}
use Rattle.levelling.proofs.plateaus.plateau_ends.Given as goal

abbrev pub invariant-loop-c : goal.invariant-loop-c
invariant-loop-c l = Plateaus l.shear l.ends l.c

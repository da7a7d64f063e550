use mathlib.Core.Path.{◌≡◌}
use lib.ListN.{length}
use Rattle.rulings.specs.stages.Sweeps.{CountedOn}
use Rattle.rulings.proofs.columns.count_between.Given as goal

abbrev pub invariant-loop-o : goal.invariant-loop-o
invariant-loop-o l = (CountedOn l.ink l.row l.from l.o l.initial.words l.words) × (length l.words ≡ length l.initial.words)

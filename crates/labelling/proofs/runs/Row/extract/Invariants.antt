use Prim.Native.Nat.{◌-◌, ◌%◌}
use lib.ListN.{length}
use Rattle.labelling.specs.stages.Extraction.{RowScan}
use Rattle.labelling.proofs.runs.Row.extract.Given as goal

abbrev pub invariant-loop-x : goal.invariant-loop-x
invariant-loop-x l = RowScan l.self.dots.now l.self.base l.initial.words l.words l.at l.k (l.k % 2) l.x

abbrev pub decreases-loop-x : goal.decreases-loop-x
decreases-loop-x l = length l.self.dots.now - l.x

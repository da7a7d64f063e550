use Prim.Native.Nat.{◌-◌, ◌%◌}
use Rattle.labelling.proofs.ExtractLaws.{ScanSweep}
use Rattle.labelling.proofs.runs.Row.scan_chunks.Given as goal

abbrev pub invariant-loop-x : goal.invariant-loop-x
invariant-loop-x l = ScanSweep l.self.dots.now l.from l.to l.self.base l.initial.words l.words l.at l.k (l.k % 2) l.x

abbrev pub decreases-loop-x : goal.decreases-loop-x
decreases-loop-x l = l.to - l.x

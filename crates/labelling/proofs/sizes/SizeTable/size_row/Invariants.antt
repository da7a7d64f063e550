use Prim.Native.Nat.{◌-◌}
use Rattle.labelling.proofs.RowSizeLaws.{RowSweep}
use Rattle.labelling.proofs.sizes.SizeTable.size_row.Given as goal

abbrev pub invariant-loop-k : goal.invariant-loop-k
invariant-loop-k l = RowSweep l.self.w l.self.c l.initial.words l.words l.self.at l.y l.fn.from.next l.fn.from.count l.k l.count

abbrev pub decreases-loop-k : goal.decreases-loop-k
decreases-loop-k l = l.self.c - l.k

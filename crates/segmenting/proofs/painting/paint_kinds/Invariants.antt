use Rattle.segmenting.proofs.PaintingLaws.{KindSweep}
use Rattle.segmenting.proofs.painting.paint_kinds.Given as goal

abbrev pub invariant-loop-k : goal.invariant-loop-k
invariant-loop-k l = KindSweep l.ink l.words l.runs l.kinds l.initial.out l.out l.done l.k

use Rattle.segmenting.specs.stages.Held.{held_boxes}
use Rattle.segmenting.proofs.BoxLaws.{BoxesWritten}
use Rattle.segmenting.proofs.boxes.write_boxes.Given as goal

abbrev pub invariant-loop-k : goal.invariant-loop-k
invariant-loop-k l = BoxesWritten (held_boxes l.words l.sizes l.kinds l.kind l.k) l.initial.out l.out l.n

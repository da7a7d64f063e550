use Rattle.segmenting.specs.stages.Held.{unpacked_boxes}
use Rattle.segmenting.proofs.BoxLaws.{BoxesWritten}
use Rattle.segmenting.proofs.boxes.unpack_boxes.Given as goal

abbrev pub invariant-loop-k : goal.invariant-loop-k
invariant-loop-k l = BoxesWritten (unpacked_boxes l.words l.from l.k) l.initial.out l.out l.k

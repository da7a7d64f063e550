use Prim.Native.Nat.{◌*◌}
use Rattle.memory.specs.stages.Stored.{Stored}
use Rattle.sorting.specs.stages.Measures.{box_word}
use Rattle.sorting.proofs.measure.pack_boxes.Given as goal

abbrev pub invariant-loop-k : goal.invariant-loop-k
invariant-loop-k l = Stored (box_word l.initial.words l.sizes) l.to (2 * l.k) l.initial.words l.words

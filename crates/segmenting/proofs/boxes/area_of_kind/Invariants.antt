use mathlib.Core.Path.{◌≡◌}
use Rattle.segmenting.specs.stages.Held.{held_area}
use Rattle.segmenting.proofs.boxes.area_of_kind.Given as goal

abbrev pub invariant-loop-k : goal.invariant-loop-k
invariant-loop-k l = l.sum ≡ held_area l.words l.sizes l.kinds l.kind l.k

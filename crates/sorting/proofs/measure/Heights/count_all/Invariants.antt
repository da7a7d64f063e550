use Rattle.sorting.specs.stages.Measures.{HeightsCounted}
use Rattle.sorting.proofs.measure.Heights.count_all.Given as goal

abbrev pub invariant-loop-k : goal.invariant-loop-k
invariant-loop-k l = HeightsCounted l.self.sheet l.self.w l.self.h l.sizes l.self.at l.k l.n l.initial.words l.words

use borrow.Author.Rules.{rules}
use Rattle.sorting.specs.stages.Measures.{sized_at}
use Rattle.sorting.proofs.measure.component_at.Goals as goal

pub returns : goal.returns
unfolding sized_at
returns c = search rules

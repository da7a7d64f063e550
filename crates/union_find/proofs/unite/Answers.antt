use Rattle.union_find.proofs.ParentLaws.{united-lower, united-upper}
use Rattle.union_find.proofs.unite.Goals as goal

pub returns-then-other-root : goal.returns-then-other-root
returns-then-other-root c = united-lower c.find-other.ensures c.if-other-root.true

pub returns : goal.returns
returns c = united-upper c.find-other.ensures c.if-other-root.false

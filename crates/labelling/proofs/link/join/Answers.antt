use Rattle.union_find.proofs.ParentLaws.{joined_same, joined-roots}
use Rattle.labelling.proofs.link.join.Goals as goal

pub returns-then-parents-k : goal.returns-then-parents-k
returns-then-parents-k c = joined_same _ _ _ c.if-parents-k.true

pub returns : goal.returns
returns c = joined-roots c.find-root.ensures c.unite.ensures

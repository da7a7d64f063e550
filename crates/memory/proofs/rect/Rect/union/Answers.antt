use Rattle.memory.proofs.rect.Rect.union.Goals as goal

pub returns : goal.returns
returns c = cc

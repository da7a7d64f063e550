use Rattle.store.proofs.lists.count_of.Goals as goal

-- `store::lists::count_of` meets its contract. Assumes nothing.

pub returns : goal.returns
returns c = c.list_at-list.ensures.2

use Rattle.store.proofs.leaves.write_head.Goals as goal

-- `store::leaves::write_head` meets its contract: ten words over the front. The search finds this too; written out, a wrong word is refused
-- as the word that differs (must-fail/state_not_written). Assumes nothing.

pub returns : goal.returns
returns c = rw (c.copy_over.ensures, c.put_float-2.ensures, c.put_float.ensures)

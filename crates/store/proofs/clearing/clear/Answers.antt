use Rattle.store.proofs.EntryLaws.{clear-no, clear-yes}
use Rattle.store.proofs.clearing.clear.Goals as goal

-- `store::clearing::clear` meets its contract. Assumes nothing.

pub returns-then-store-lt1 : goal.returns-then-store-lt1
returns-then-store-lt1 c = clear-no c.args.store.now c.if-store-lt1.true

pub returns : goal.returns
returns c = clear-yes c.args.store.now c.if-store-lt1.false

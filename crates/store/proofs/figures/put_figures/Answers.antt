use Rattle.judging.specs.rules.Header.{part}
use Rattle.store.proofs.TellLaws.{put_one, put-zero}
use Rattle.store.proofs.figures.put_figures.Goals as goal

-- `store::figures::put_figures` meets its contract. Assumes nothing.

pub returns-then-store-ne0 : goal.returns-then-store-ne0
unfolding part
returns-then-store-ne0 c = put_one c.args.store.now c.args.out.now _ c.requires.0 c.copy_over.ensures c.if-store-ne0.true

pub returns-else-store-ne0 : goal.returns-else-store-ne0
unfolding part
returns-else-store-ne0 c = put-zero c.args.store.now c.args.out.now _ c.requires.0 c.copy_over.ensures c.if-store-ne0.false

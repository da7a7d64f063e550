use native.Mathlib.Omega.{arith}
use Rattle.store.proofs.LineReads.{lines-asked, twenty-found}
use Rattle.store.proofs.medians.twenty_read.Goals as goal

-- `store::medians::twenty_read` meets its contract. Assumes nothing.

pub list_of-lines-requires : goal.list_of-lines-requires
list_of-lines-requires c = c.requires.lists

pub twenty_line_measure-requires : goal.twenty_line_measure-requires
twenty_line_measure-requires c =
    let L = lines-asked c.args.store.now _ c.list_of-lines.ensures c.requires in
    (L.lines, L.low, omega (arith, L.low, L.few_blocks))

pub returns : goal.returns
returns c = twenty-found c.args.store.now _ c.list_of-lines.ensures c.twenty_line_measure.result c.twenty_line_measure.ensures

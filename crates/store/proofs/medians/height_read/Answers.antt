use native.Mathlib.Omega.{arith}
use Rattle.store.proofs.LineReads.{lines-asked, height-found}
use Rattle.store.proofs.medians.height_read.Goals as goal

-- `store::medians::height_read` meets its contract. Assumes nothing.

pub list_of-lines-requires : goal.list_of-lines-requires
list_of-lines-requires c = c.requires.lists

pub median_glyph_height-requires : goal.median_glyph_height-requires
median_glyph_height-requires c =
    let L = lines-asked c.args.store.now _ c.list_of-lines.ensures c.requires in
    (L.lines.room, omega (arith, L.few), omega (arith, L.low), omega (arith, L.low), L.heights)

pub returns : goal.returns
returns c = height-found c.args.store.now _ c.list_of-lines.ensures c.median_glyph_height.result c.median_glyph_height.ensures

use native.Mathlib.Omega.{arith}
use Rattle.store.proofs.LineReads.{lines-asked, pitch-found}
use Rattle.store.proofs.medians.pitch_read.Goals as goal

-- `store::medians::pitch_read` meets its contract. Assumes nothing.

pub list_of-lines-requires : goal.list_of-lines-requires
list_of-lines-requires c = c.requires.lists

pub median_pitch-requires : goal.median_pitch-requires
median_pitch-requires c =
    let L = lines-asked c.args.store.now _ c.list_of-lines.ensures c.requires in
    (L.lines, L.low, omega (arith, L.low, L.few_blocks))

pub returns : goal.returns
returns c = pitch-found c.args.store.now _ c.list_of-lines.ensures c.median_pitch.result c.median_pitch.ensures.0

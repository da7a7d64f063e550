use mathlib.Core.Path.{◌∙◌, sym}
use native.Mathlib.Omega.{arith}
use Rattle.judging.specs.rules.Header.{part}
use Rattle.store.proofs.SheetReads.{sheet-long, sheet-small}
use Rattle.store.proofs.sheets.sheet_size.Goals as goal

pub returns : goal.returns
unfolding part
returns c =
    let s = c.args.store.now in
    let A = c.requires in
    let l = sheet-small s A in
    (c.sheet_length.ensures ∙ sym (sheet-long s A), omega (arith, c.sheet_length.ensures))

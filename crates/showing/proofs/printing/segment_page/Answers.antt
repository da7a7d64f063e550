use mathlib.Core.Path.{refl}
use Rattle.showing.proofs.ShowLaws.{segment-page-left}
use Rattle.showing.proofs.printing.segment_page.Goals as goal

pub returns : goal.returns
returns c =
    let a = c.args in
    segment-page-left a.store.now a.ink.now a.kinds.now a.scratch.now _ c.show_sheet-sheet.ensures _ _ _ _ refl c.segment.ensures.0

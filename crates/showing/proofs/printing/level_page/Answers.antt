use mathlib.Core.Path.{refl}
use Rattle.showing.proofs.ShowLaws.{level-page-left}
use Rattle.showing.proofs.printing.level_page.Goals as goal

pub returns : goal.returns
returns c =
    let a = c.args in
    level-page-left a.mask.now a.page.width a.page.height a.page.skew a.page.slope a.store.now a.ink.now _ _ _ c.show_sheet-sheet.ensures c.from_bits.ensures c.from_bits-2.ensures _ _ _ _
    refl c.level.ensures

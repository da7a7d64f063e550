use Rattle.novlizeb.proofs.AnswerLaws.{left-number}
use Rattle.novlizeb.proofs.pages.novlizeb_segment.Goals as goal

-- `novlizeb::pages::novlizeb_segment` meets its contract: the entry's promise. Assumes nothing.

pub returns : goal.returns
returns c =
    let e = rw c.sheet_of-sheet.ensures at c.segment.ensures in
    (left-number _ _ _ _ _ c.number_of.ensures e.0, e.1, e.2)

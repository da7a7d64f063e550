use Rattle.novlizeb.proofs.AnswerLaws.{left-number}
use Rattle.novlizeb.proofs.pages.novlizeb_level.Goals as goal

-- `novlizeb::pages::novlizeb_level` meets its contract: the entry's promise. Assumes nothing.

pub returns : goal.returns
returns c = left-number _ _ _ _ _ c.number_of.ensures (rw (c.new-handed.ensures, c.sheet_of-sheet.ensures) at c.level.ensures)

use Rattle.novlizeb.proofs.AnswerLaws.{told-number}
use Rattle.novlizeb.proofs.frames.novlizeb_to_page.Goals as goal

-- `novlizeb::frames::novlizeb_to_page` meets its contract: the entry's promise. Assumes nothing.

pub returns : goal.returns
returns c = told-number _ _ _ _ c.number_of.ensures c.to_page.ensures

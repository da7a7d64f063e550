use Rattle.novlizeb.proofs.AnswerLaws.{left-number}
use Rattle.novlizeb.proofs.pages.novlizeb_clear.Goals as goal

-- `novlizeb::pages::novlizeb_clear` meets its contract: the entry's promise. Assumes nothing.

pub returns : goal.returns
returns c = left-number _ _ _ _ _ c.number_of.ensures c.clear.ensures

use Rattle.novlizeb.proofs.AnswerLaws.{told-number}
use Rattle.novlizeb.proofs.frames.novlizeb_level_gray.Goals as goal

-- `novlizeb::frames::novlizeb_level_gray` meets its contract: the entry's promise. Assumes nothing.

pub returns : goal.returns
returns c = told-number _ _ _ _ c.number_of.ensures c.level_gray.ensures

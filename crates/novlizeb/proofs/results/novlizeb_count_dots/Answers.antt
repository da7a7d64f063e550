use Rattle.novlizeb.proofs.AnswerLaws.{told-word}
use Rattle.novlizeb.proofs.results.novlizeb_count_dots.Goals as goal

-- `novlizeb::results::novlizeb_count_dots` meets its contract: the entry's promise. Assumes nothing.

pub returns : goal.returns
returns c = told-word _ c.count_dots.result _ _ c.word_of.ensures c.count_dots.ensures

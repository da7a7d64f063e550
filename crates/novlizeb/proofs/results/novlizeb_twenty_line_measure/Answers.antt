use Rattle.novlizeb.proofs.AnswerLaws.{told-word}
use Rattle.novlizeb.proofs.results.novlizeb_twenty_line_measure.Goals as goal

-- `novlizeb::results::novlizeb_twenty_line_measure` meets its contract: the entry's promise. Assumes nothing.

pub returns : goal.returns
returns c = told-word _ c.twenty_line_measure.result _ _ c.word_of.ensures c.twenty_line_measure.ensures

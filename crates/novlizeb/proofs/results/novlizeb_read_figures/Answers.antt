use Rattle.novlizeb.proofs.AnswerLaws.{told-number}
use Rattle.novlizeb.proofs.results.novlizeb_read_figures.Goals as goal

-- `novlizeb::results::novlizeb_read_figures` meets its contract: the entry's promise. Assumes nothing.

pub returns : goal.returns
returns c = told-number _ _ _ _ c.number_of.ensures c.read_figures.ensures

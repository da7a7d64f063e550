use Rattle.novlizeb.proofs.AnswerLaws.{told-number}
use Rattle.novlizeb.proofs.results.novlizeb_read_summary.Goals as goal

-- `novlizeb::results::novlizeb_read_summary` meets its contract: the entry's promise. Assumes nothing.

pub returns : goal.returns
returns c = told-number _ _ _ _ c.number_of.ensures c.read_summary.ensures

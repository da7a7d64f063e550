use Rattle.novlizeb.proofs.AnswerLaws.{told-word, told-output}
use Rattle.novlizeb.proofs.results.novlizeb_read_rules.Goals as goal

-- `novlizeb::results::novlizeb_read_rules` meets its contract: the entry's promise. Assumes nothing.

pub returns : goal.returns
returns c = (told-word _ c.read_rules.result _ _ c.word_of.ensures c.read_rules.ensures, told-output c.read_rules.result _ _ c.read_rules.ensures)

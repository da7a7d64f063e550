use Rattle.novlizeb.proofs.AnswerLaws.{told-word, told-output}
use Rattle.novlizeb.proofs.results.novlizeb_read_lines.Goals as goal

-- `novlizeb::results::novlizeb_read_lines` meets its contract: the entry's promise. Assumes nothing.

pub returns : goal.returns
returns c = (told-word _ c.read_lines.result _ _ c.word_of.ensures c.read_lines.ensures, told-output c.read_lines.result _ _ c.read_lines.ensures)

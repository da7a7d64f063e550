use Rattle.novlizeb.proofs.AnswerLaws.{told-word, told-output}
use Rattle.novlizeb.proofs.results.novlizeb_read_graphics.Goals as goal

-- `novlizeb::results::novlizeb_read_graphics` meets its contract: the entry's promise. Assumes nothing.

pub returns : goal.returns
returns c = (told-word _ c.read_graphics.result _ _ c.word_of.ensures c.read_graphics.ensures, told-output c.read_graphics.result _ _ c.read_graphics.ensures)

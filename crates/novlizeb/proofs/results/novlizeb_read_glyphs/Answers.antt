use Rattle.novlizeb.proofs.AnswerLaws.{told-word, told-output}
use Rattle.novlizeb.proofs.results.novlizeb_read_glyphs.Goals as goal

-- `novlizeb::results::novlizeb_read_glyphs` meets its contract: the entry's promise. Assumes nothing.

pub returns : goal.returns
returns c = (told-word _ c.read_glyphs.result _ _ c.word_of.ensures c.read_glyphs.ensures, told-output c.read_glyphs.result _ _ c.read_glyphs.ensures)

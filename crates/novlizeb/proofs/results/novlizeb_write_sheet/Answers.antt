use Rattle.novlizeb.proofs.AnswerLaws.{told-word, told-output}
use Rattle.novlizeb.proofs.results.novlizeb_write_sheet.Goals as goal

-- `novlizeb::results::novlizeb_write_sheet` meets its contract: the entry's promise. Assumes nothing.

pub returns : goal.returns
returns c = (told-word _ c.write_sheet.result _ _ c.word_of.ensures c.write_sheet.ensures, told-output c.write_sheet.result _ _ c.write_sheet.ensures)

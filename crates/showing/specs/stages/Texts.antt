-- Any text told over the front of the bytes lent: `shown_to` of what is printed, and each function on the way tells its own text so.
use Rattle.std.specs.Prelude.{ℕ, List, ltb, length}
use Rattle.memory.specs.rules.Refusals.{refuse_if}
use Rattle.memory.specs.rules.Words.{over}
use Rattle.store.specs.rules.Readings.Output.{words}
use Rattle.store.specs.rules.Outcomes.{Told, told_by}

-- how many bytes the text is and the text over what is lent; 9 where fewer bytes are lent
unfoldable pub text_told : List ℕ → List ℕ → Told
text_told text out = told_by (refuse_if (ltb (length out) (length text)) 9 0) (length text) (words (over text out)) (words out)

use mathlib.Core.Path.{◌∙◌}
use Rattle.memory.specs.rules.Refusals.{answer_number}
use Rattle.store.specs.rules.Readings.Output.{words}
use Rattle.store.specs.rules.Outcomes.{told}
use Rattle.showing.proofs.ShortLaws.{printed-front}
use Rattle.show.proofs.printed.Goals as goal

-- What is printed is always told, since so many bytes are lent, and stands in front.

pub returns : goal.returns
returns c =
    let out = c.show-answer.new.out in
    printed-front c.args.input.now c.args.out.now out (answer_number c.show-answer.result) c.value_of.result c.requires
    ((λ t. told (answer_number c.show-answer.result) (c.value_of.ensures t) (words out)) ∙ c.show-answer.ensures)

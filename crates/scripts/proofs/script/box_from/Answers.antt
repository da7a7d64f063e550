use Rattle.scripts.specs.rules.Scripts.{box_from}
use Rattle.scripts.proofs.script.box_from.Goals as goal

pub returns : goal.returns
unfolding box_from
returns c = λ i. record { x0 = c.word_at.ensures i; y0 = c.word_at-2.ensures i; x1 = c.word_at-3.ensures i; y1 = c.word_at-4.ensures i }

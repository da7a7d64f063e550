use Rattle.stages.proofs.LabelAnswerLaws.{label-told}
use Rattle.stages.proofs.masks.novlizeb_label.Goals as goal

-- `stages::masks::novlizeb_label` promises what `labelling::label` does. Assumes nothing.

pub returns : goal.returns
returns c =
    label-told c.label.result _ _ _ _ _ _ c.label.ensures c.word_of.ensures

-- What the stages tells of labelling called by itself. Assumes nothing.
use Rattle.std.specs.Prelude.{◌≡◌, List, ℕ, ◌+◌}
use Rattle.labelling.specs.rules.Answer.{LabelOutcome}
use Rattle.stages.specs.rules.Answers.{refusal_word}

-- the word, the labels, the records' words, the length of scratch and what lies past its needed words are those that a call leaves
pub record LabelTold (o : LabelOutcome) (r : ℕ) (labels components : List ℕ) (scratch : ℕ) (beyond : List ℕ) : Type 0 where
  pub word : r ≡ refusal_word o.number + o.count
  pub labelled : labels ≡ o.labels
  pub recorded : components ≡ o.components
  pub scratch_length : scratch ≡ o.scratch
  pub past : beyond ≡ o.beyond

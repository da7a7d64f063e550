-- What the stages tells of run extents called by themselves. Assumes nothing.
use Rattle.std.specs.Prelude.{◌≡◌, Bool, true, false, List, ℕ}
use Rattle.extents.specs.rules.Answers.{ExtentsOutcome}
use Rattle.extents.specs.declared.entry.Along.{Along}
use Rattle.extents.specs.declared.entry.Along.TheVariants.{Rows, Columns}
use Rattle.stages.specs.rules.Answers.{refusal_word}

-- along the columns, or along the rows
abbrev pub along_of : Bool → Along
along_of true = Columns
along_of false = Rows

-- the word, and the lent words, are those of an outcome
pub record ExtentsTold (o : ExtentsOutcome) (r : ℕ) (s : List ℕ) : Type 0 where
  pub word : r ≡ refusal_word o.number
  pub extents : s ≡ o.extents

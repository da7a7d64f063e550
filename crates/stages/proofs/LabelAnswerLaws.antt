-- What the word of a labelling tells of what the call leaves. Assumes nothing.
use mathlib.Core.Path.{◌≡◌, ap, ◌∙◌}
use mathlib.Core.List.{List}
use Prim.Native.Nat.{ℕ, ◌+◌}
use Rattle.labelling.specs.rules.Answer.{LabelOutcome, label_outcome}
use Rattle.std.specs.Prelude.{Result}
use Rattle.memory.specs.declared.refusals.Refusal.{Refusal}
use Rattle.memory.specs.rules.Refusals.{answer_word}
use Rattle.stages.specs.rules.Answers.{refusal_word}
use Rattle.stages.specs.rules.LabelAnswers.{LabelTold}

pub label-told :
    (a : Result ℕ Refusal) (labels components : List ℕ) (scratch : ℕ) (beyond : List ℕ) (o : LabelOutcome) (r : ℕ)
    → label_outcome a labels components scratch beyond ≡ o
    → r ≡ answer_word a
    → LabelTold o r labels components scratch beyond
label-told a labels components scratch beyond o r e h =
    record {
      word = h ∙ ap (λ (p : LabelOutcome). refusal_word p.number + p.count) e;
      labelled = ap (λ (p : LabelOutcome). p.labels) e;
      recorded = ap (λ (p : LabelOutcome). p.components) e;
      scratch_length = ap (λ (p : LabelOutcome). p.scratch) e;
      past = ap (λ (p : LabelOutcome). p.beyond) e;
    }

-- What the word of run extents tells of an outcome. Assumes nothing.
use mathlib.Core.Path.{◌≡◌, refl, ap, ◌∙◌}
use mathlib.Core.Bool.{Bool}
use mathlib.Core.List.{List}
use Prim.Native.Nat.{ℕ}
use Rattle.extents.specs.rules.Answers.{ExtentsOutcome, extents_outcome, run_extents}
use Rattle.extents.specs.declared.entry.Along.{Along}
use Rattle.std.specs.Prelude.{Result, Ok, Err}
use Rattle.memory.specs.declared.refusals.Refusal.{Refusal}
use Rattle.memory.specs.rules.Refusals.{answer_number}
use Rattle.stages.specs.rules.Answers.{refusal_word}
use Rattle.stages.specs.rules.ExtentAnswers.{along_of, ExtentsTold}

-- done, or refused: the word has no value
extents-word : {A : Type 0} (a : Result A Refusal) (s : List ℕ) → refusal_word (answer_number a) ≡ refusal_word (extents_outcome a s).number
extents-word (Ok d) s = refl
extents-word (Err r) s = refl

extents-lent : {A : Type 0} (a : Result A Refusal) (s : List ℕ) → s ≡ (extents_outcome a s).extents
extents-lent (Ok d) s = refl
extents-lent (Err r) s = refl

pub extents-told :
    {A : Type 0} (m s s' : List ℕ) (w h : ℕ) (along : Along) (columns : Bool) (a : Result A Refusal) (n r : ℕ)
    → extents_outcome a s' ≡ run_extents m w h along s
    → along ≡ along_of columns
    → n ≡ answer_number a
    → r ≡ refusal_word n
    → ExtentsTold (run_extents m w h (along_of columns) s) r s'
extents-told m s s' w h along columns a n r e al en hr =
    let q = e ∙ ap (λ (x : Along). run_extents m w h x s) al in
    record {
      word = hr ∙ (ap refusal_word en ∙ (extents-word a s' ∙ ap (λ (p : ExtentsOutcome). refusal_word p.number) q));
      extents = extents-lent a s' ∙ ap (λ (p : ExtentsOutcome). p.extents) q;
    }

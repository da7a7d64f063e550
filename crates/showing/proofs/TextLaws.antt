-- A text told over the bytes lent: too few bytes, and enough.
use mathlib.Core.Path.{◌≡◌, refl, sym, ◌∙◌}
use mathlib.Core.List.{List}
use Prim.Native.Nat.{ℕ, ◌≤◌, ◌<◌}
use borrow.Author.Tests.{lt-ltb, le-ltb}
use lib.ListN.{length}
use Rattle.memory.specs.rules.Refusals.{refuse_if}
use Rattle.memory.specs.rules.Words.{over}
use Rattle.listing.specs.rules.Digits.{hex, refusal_text}
use Rattle.listing.specs.stages.Parts.{refusal_length}
use Rattle.store.specs.rules.Readings.Output.{words}
use Rattle.store.specs.rules.Outcomes.{told, told_by}
use Rattle.showing.specs.stages.Texts.{text_told}

-- a refusal's line
pub refusal-long : (n : ℕ) → length (refusal_text n) ≡ refusal_length
unfolding refusal_text hex
refusal-long n = refl

pub text-short : (text out : List ℕ) → length out < length text → told 9 0 (words out) ≡ text_told text out
unfolding text_told told_by refuse_if
text-short text out h = sym (rw (lt-ltb (length out) (length text) h))

pub text-told : (text out out' : List ℕ) (n : ℕ) → n ≡ length text → length text ≤ length out → out' ≡ over text out → told 0 n (words out') ≡ text_told text out
unfolding text_told told_by refuse_if
text-told text out out' n e h o =
    (λ t. told 0 (e t) (words (o t))) ∙ sym (rw (le-ltb (length out) (length text) h))

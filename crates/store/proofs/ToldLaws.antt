-- Readings of results: what is told, refused or accepted.
use mathlib.Core.Path.{◌≡◌, refl, sym, ap, ◌∙◌}
use mathlib.Core.Bool.{false}
use mathlib.Core.List.{List}
use Prim.Native.Nat.{ℕ}
use borrow.Author.Tests.{ne_eqb}
use lib.ListN.{length}
use Rattle.memory.specs.rules.Refusals.{refuse_if}
use Rattle.judging.specs.rules.Header.{held}
use Rattle.judging.specs.rules.Views.{view_of}
use Rattle.judging.specs.rules.Refusals.{result_refusal}
use Rattle.store.specs.rules.Readings.{Output, ResultReading, lacking_result, bad_result, short_result, value_result, fill_result, lent_result}
use Rattle.store.specs.rules.Outcomes.{told, told_by, result_told}
use Rattle.judging.specs.rules.Spoiled.{results_spoiled}
use Rattle.judging.proofs.SpoiledLaws.{chain, chain-passes, judged-is, ReadableResults, readable_results}

-- ---- what is told

told-no : (n v : ℕ) (o x : Output) → (n ≡ 0 → ⊥) → told n 0 x ≡ told_by n v o x
unfolding told_by
told-no n v o x h = rw (ne_eqb n 0 h)

told-yes : (n v : ℕ) (o x : Output) → n ≡ 0 → told 0 v o ≡ told_by n v o x
unfolding told_by
told-yes n v o x h = rw h

module _ (q : ResultReading) (s ink kinds : List ℕ) (n : ℕ)
    (en : n ≡ result_refusal (length s) (length ink) (length kinds) (held s) (lacking_result q) (results_spoiled s ink kinds) false false) where
  abbrev number : ℕ
  number = result_refusal (length s) (length ink) (length kinds) (held s) (lacking_result q) (results_spoiled s ink kinds) (bad_result q (view_of s kinds).frame) (short_result q (view_of s kinds))

  abbrev late : ℕ
  late = refuse_if (bad_result q (view_of s kinds).frame) 8 (refuse_if (short_result q (view_of s kinds)) 9 0)

  number_is : chain s ink kinds (lacking_result q) late ≡ number
  unfolding result_refusal
  number_is = refl

  -- refused before the results are looked at
  pub told-refused : (n ≡ 0 → ⊥) → told n 0 (lent_result q) ≡ result_told q s ink kinds
  unfolding result_told
  told-refused z =
      told-no n (value_result q (view_of s kinds)) (fill_result q (view_of s kinds)) (lent_result q) z
      ∙ ap (λ m. told_by m (value_result q (view_of s kinds)) (fill_result q (view_of s kinds)) (lent_result q))
      ((en ∙ sym (judged-is s ink kinds (lacking_result q))) ∙ (sym ((chain-passes s ink kinds (lacking_result q)).stop (λ e. z (en ∙ (sym (judged-is s ink kinds (lacking_result q)) ∙ e))) late) ∙ number_is))

  module _ (gn : n ≡ 0) where
    late_is : late ≡ number
    late_is = sym ((chain-passes s ink kinds (lacking_result q)).pass (judged-is s ink kinds (lacking_result q) ∙ (sym en ∙ gn)) late) ∙ number_is

    -- refused by kind, box or an output that is too short for what is held
    pub told-late : (m : ℕ) → m ≡ refuse_if (bad_result q (view_of s kinds).frame) 8 (refuse_if (short_result q (view_of s kinds)) 9 0) → (m ≡ 0 → ⊥) → told m 0 (lent_result q) ≡ result_told q s ink kinds
    unfolding result_told
    told-late m em z =
        told-no m (value_result q (view_of s kinds)) (fill_result q (view_of s kinds)) (lent_result q) z
        ∙ ap (λ m. told_by m (value_result q (view_of s kinds)) (fill_result q (view_of s kinds)) (lent_result q)) (em ∙ late_is)

    pub told-done : refuse_if (bad_result q (view_of s kinds).frame) 8 (refuse_if (short_result q (view_of s kinds)) 9 0) ≡ 0 → told 0 (value_result q (view_of s kinds)) (fill_result q (view_of s kinds)) ≡ result_told q s ink kinds
    unfolding result_told
    told-done e =
        told-yes late (value_result q (view_of s kinds)) (fill_result q (view_of s kinds)) (lent_result q) e
        ∙ ap (λ m. told_by m (value_result q (view_of s kinds)) (fill_result q (view_of s kinds)) (lent_result q)) late_is

    pub told-good : ReadableResults s ink kinds × (lacking_result q ≡ false)
    told-good = readable_results s ink kinds (lacking_result q) (sym en ∙ gn)

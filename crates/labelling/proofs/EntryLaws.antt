-- The entry: which number a call is refused with, and what it leaves.
use mathlib.Core.Path.{◌≡◌, refl, sym, ap, ◌∙◌, subst}
use mathlib.Core.List.{List, ◌++◌}
use mathlib.Core.Bool.{not}
use Prim.Native.Nat.{ℕ, ◌*◌, ◌≤◌}
use native.Mathlib.Nat.{le_refl}
use native.Mathlib.Omega.{arith}
use borrow.Author.Tests.{ltb-false, eqb-true, not-false, ne_eqb}
use lib.ListN.{length, take, drop, length-append, length-drop}
use lib.Seq.{drop_at, length-take-le}
use lib.Dec.{eqb, ltb}
use Rattle.memory.specs.rules.Limits.{max_mask_dots, max_capacity, component_words, scratch_words}
use Rattle.memory.specs.rules.Masks.{sides_refusal}
use Rattle.memory.proofs.RefusalLaws.{number_positive, refusal-passed, Passes, passes_none, passes-if}
use Rattle.memory.proofs.MaskLaws.{sides-pass, SidesPassed, sides-passed}
use Rattle.labelling.specs.rules.Labels.{Labelling, labelling}
use Rattle.labelling.specs.rules.Answer.{count_told, LabelOutcome, lent_refusal, many_refusal, refusal, label_outcome, labels_left, components_left, label_mask}
use Rattle.labelling.specs.stages.Working.{Workable, worked}
use Rattle.std.specs.Prelude.{Result, Err}
use Rattle.memory.specs.declared.refusals.Refusal.{Refusal}
use Rattle.memory.specs.rules.Refusals.{number, answer_value}

-- The chain of tests before others

pub lent-pass : (dots mask P labels components scratch : ℕ) → Passes (lent_refusal dots mask P labels components scratch)
unfolding lent_refusal
lent-pass dots mask P labels components scratch =
    passes-if (not (eqb mask dots)) 1
    (passes-if (eqb P 0) 6
    (passes-if (ltb max_capacity P) 6
    (passes-if (ltb labels dots) 8 (passes-if (ltb components (component_words * P)) 8 (passes-if (ltb scratch (scratch_words dots P)) 8 passes_none)))))

-- What a passed chain says

pub record LentGood (dots mask P labels components scratch : ℕ) : Type 0 where
  pub whole : mask ≡ dots
  pub few : P ≤ max_capacity
  pub labels_room : dots ≤ labels
  pub records_room : component_words * P ≤ components
  pub words_room : scratch_words dots P ≤ scratch

pub lent-good : (dots mask P labels components scratch : ℕ) → lent_refusal dots mask P labels components scratch 0 ≡ 0 → LentGood dots mask P labels components scratch
unfolding lent_refusal
lent-good dots mask P labels components scratch e =
    let p₁ = refusal-passed (not (eqb mask dots)) 1 _ e in
    let p₂ = refusal-passed (eqb P 0) 6 _ p₁.later in
    let p₃ = refusal-passed (ltb max_capacity P) 6 _ p₂.later in
    let p₄ = refusal-passed (ltb labels dots) 8 _ p₃.later in
    let p₅ = refusal-passed (ltb components (component_words * P)) 8 _ p₄.later in
    let p₆ = refusal-passed (ltb scratch (scratch_words dots P)) 8 _ p₅.later in
    record {
      whole = eqb-true mask dots (not-false (eqb mask dots) p₁.passed);
      few = ltb-false max_capacity P p₃.passed;
      labels_room = ltb-false labels dots p₄.passed;
      records_room = ltb-false components (component_words * P) p₅.passed;
      words_room = ltb-false scratch (scratch_words dots P) p₆.passed;
    }

-- What a call leaves

-- what a call leaves, by the number that it is refused with
abbrev outcome_by : ℕ → Labelling → List ℕ → List ℕ → ℕ → List ℕ → LabelOutcome
outcome_by n L labels components len beyond =
    record { number = n; count = count_told n (length L.components); labels = labels_left n L labels; components = components_left n L components; scratch = len; beyond = beyond }

refused : (r : Refusal) (k : ℕ) (L : Labelling) (labels components : List ℕ) (len : ℕ) (beyond : List ℕ) → k ≡ number r
    → label_outcome (Err r) labels components len beyond ≡ outcome_by k L labels components len beyond
unfolding count_told labels_left components_left
refused r k L labels components len beyond e = rw (e, ne_eqb (number r) 0 (number_positive r)) refl

module _ (w h : ℕ) (m : List ℕ) (P : ℕ) (labels components scratch : List ℕ) where
  abbrev rest-by-lent : ℕ
  rest-by-lent = lent_refusal (w * h) (length m) P (length labels) (length components) (length scratch) (many_refusal (length (labelling w h m).components) P)

  pub refused-sides : (r : Refusal) → number r ≡ sides_refusal w h 0 → label_outcome (Err r) labels components (length scratch) (drop (scratch_words (w * h) P) scratch) ≡ label_mask w h m P labels components scratch
  refused-sides r e =
      refused r (refusal w h m P (length labels) (length components) (length scratch)) (labelling w h m) labels components (length scratch) (drop (scratch_words (w * h) P) scratch)
      ((sides-pass w h).stop (λ z. number_positive r (e ∙ z)) rest-by-lent ∙ sym e)

  pub refused-lent : (r : Refusal) → sides_refusal w h 0 ≡ 0 → number r ≡ lent_refusal (w * h) (length m) P (length labels) (length components) (length scratch) 0
      → label_outcome (Err r) labels components (length scratch) (drop (scratch_words (w * h) P) scratch) ≡ label_mask w h m P labels components scratch
  refused-lent r s e =
      refused r (refusal w h m P (length labels) (length components) (length scratch)) (labelling w h m) labels components (length scratch) (drop (scratch_words (w * h) P) scratch)
      ((sides-pass w h).pass s rest-by-lent
      ∙ ((lent-pass (w * h) (length m) P (length labels) (length components) (length scratch)).stop (λ z. number_positive r (e ∙ z)) (many_refusal (length (labelling w h m).components) P) ∙ sym e))

  pub judged : sides_refusal w h 0 ≡ 0 → lent_refusal (w * h) (length m) P (length labels) (length components) (length scratch) 0 ≡ 0
      → refusal w h m P (length labels) (length components) (length scratch) ≡ many_refusal (length (labelling w h m).components) P
  judged s l =
      (sides-pass w h).pass s rest-by-lent
      ∙ (lent-pass (w * h) (length m) P (length labels) (length components) (length scratch)).pass l (many_refusal (length (labelling w h m).components) P)

-- D dots and N words of scratch, as the entry reckons them
module _ (w h : ℕ) (m : List ℕ) (P : ℕ) (labels components scratch : List ℕ) (es : 0 ≡ sides_refusal w h 0) (D : ℕ) (e_d : D ≡ w * h) where
  sides-good : SidesPassed w h 0
  sides-good = sides-passed w h 0 (sym es)

  pub entry-dots : D ≤ max_mask_dots
  entry-dots = let f = sides-good.few in omega arith

  module _ (lent : ℕ) (el : lent ≡ lent_refusal D (length m) P (length labels) (length components) (length scratch) 0) where
    lent_is : lent ≡ lent_refusal (w * h) (length m) P (length labels) (length components) (length scratch) 0
    lent_is = el ∙ ap (λ z. lent_refusal z (length m) P (length labels) (length components) (length scratch) 0) e_d

    pub entry-refused : (r : Refusal) → number r ≡ lent → label_outcome (Err r) labels components (length scratch) (drop (scratch_words (w * h) P) scratch) ≡ label_mask w h m P labels components scratch
    entry-refused r e = refused-lent w h m P labels components scratch r (sym es) (e ∙ lent_is)

    module _ (gl : lent ≡ 0) (N : ℕ) (e_n : N ≡ scratch_words D P) where
      words_are : N ≡ scratch_words (w * h) P
      words_are = e_n ∙ ap (λ z. scratch_words z P) e_d

      lent_fits : LentGood (w * h) (length m) P (length labels) (length components) (length scratch)
      lent_fits = lent-good (w * h) (length m) P (length labels) (length components) (length scratch) (sym lent_is ∙ gl)

      pub entry-words : N ≤ length scratch
      entry-words = subst (λ z. z ≤ length scratch) (sym words_are) lent_fits.words_room

      pub entry-workable : Workable w h m P labels components (take N scratch)
      entry-workable =
          let S = sides-good in
          let L = lent_fits in
          record {
            wide = S.wide;
            narrow = S.narrow;
            high = S.high;
            low = S.low;
            dots = S.few;
            whole = L.whole;
            few = L.few;
            labels_room = L.labels_room;
            records_room = L.records_room;
            words_room = subst (λ z. z ≤ length (take N scratch)) words_are (subst (λ z. N ≤ z) (sym (length-take-le N scratch entry-words)) (le_refl N));
          }

      pub entry_done : {r : Result ℕ Refusal} {labels' components' : List ℕ} (part : List ℕ) → worked r labels' components' w h m P labels components → length part ≡ length (take N scratch)
          → label_outcome r labels' components' (length (part ++ drop N scratch)) (drop (scratch_words (w * h) P) (part ++ drop N scratch)) ≡ label_mask w h m P labels components scratch
      entry_done {r} {labels'} {components'} part W e =
          let n = refusal w h m P (length labels) (length components) (length scratch) in
          let l : length part ≡ N = e ∙ length-take-le N scratch entry-words in
          let j : n ≡ many_refusal (length (labelling w h m).components) P = judged w h m P labels components scratch (sym es) (sym lent_is ∙ gl) in
          let a : answer_value r ≡ count_told n (length (labelling w h m).components) = W.count ∙ ap (λ z. count_told z (length (labelling w h m).components)) (sym j) in
          let b : labels' ≡ labels_left n (labelling w h m) labels = W.labelled ∙ ap (λ z. labels_left z (labelling w h m) labels) (sym j) in
          let c : components' ≡ components_left n (labelling w h m) components = W.recorded ∙ ap (λ z. components_left z (labelling w h m) components) (sym j) in
          let f : length (part ++ drop N scratch) ≡ length scratch = length-append part (drop N scratch) ∙ (let q = length-drop N scratch in let g = entry-words in omega arith) in
          let d : drop (scratch_words (w * h) P) (part ++ drop N scratch) ≡ drop (scratch_words (w * h) P) scratch =
          ap (λ z. drop z (part ++ drop N scratch)) (sym words_are) ∙ (drop_at part (drop N scratch) N l ∙ ap (λ z. drop z scratch) words_are) in
          λ i. record { number = (W.number ∙ sym j) i; count = a i; labels = b i; components = c i; scratch = f i; beyond = d i }

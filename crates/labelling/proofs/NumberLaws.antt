-- Numbers in the place of parents: those below k are numbers, from k on they are parents still.
use mathlib.Core.Path.{◌≡◌, refl, sym, ap, ◌∙◌, subst}
use mathlib.Core.List.{List}
use Prim.Native.Nat.{ℕ, suc, ◌+◌, ◌≤◌, ◌<◌}
use native.Mathlib.Nat.{le_refl, not-suc-le-zero}
use native.Mathlib.Numerals.{add-one}
use native.Mathlib.Decide.{ℕ_discrete}
use native.Mathlib.Omega.{arith}
use lib.ListN.{get_or, length}
use lib.Seq.{get_or-set_same, get_or-set_other}
use Rattle.memory.specs.rules.Lists.{count_if}
use Rattle.union_find.specs.stages.Forests.{Forest}
use Rattle.labelling.specs.stages.InkRuns.{is_root, component_number}
use Rattle.labelling.specs.stages.Numbering.{NumberedOne, Numbered}
use Rattle.memory.proofs.PlaceLaws.{count-mono}
use Rattle.memory.specs.rules.Limits.{max_capacity}
use Rattle.union_find.proofs.ParentLaws.{forest-root}
use Rattle.labelling.proofs.RunLabelLaws.{number-new, number-old, names-new, names-old}

pub record NumberSweep (c capacity : ℕ) (p₀ p : List ℕ) (k count : ℕ) : Type 0 where
  pub room : c ≤ length p₀
  pub few : capacity ≤ max_capacity
  pub down : (j : ℕ) → j < c → get_or p₀ j 0 ≤ j
  pub len : length p ≡ length p₀
  pub upto : k ≤ c
  pub low : count ≤ capacity
  pub rest : (i : ℕ) → k ≤ i → get_or p i 0 ≡ get_or p₀ i 0
  pub count_is : (f : ℕ → ℕ) → ((i : ℕ) → f i ≤ i) → Forest f p₀ c → count ≡ count_if (is_root f) k
  pub numbers : (f : ℕ → ℕ) → ((i : ℕ) → f i ≤ i) → Forest f p₀ c → (i : ℕ) → i < k → get_or p i 0 ≡ component_number f i

pub number-none : (c capacity : ℕ) (p : List ℕ) → c ≤ length p → capacity ≤ max_capacity → ((j : ℕ) → j < c → get_or p j 0 ≤ j) → NumberSweep c capacity p p 0 0
unfolding count_if
number-none c capacity p r few d =
    record {
      room = r;
      few = few;
      down = d;
      len = refl;
      upto = omega arith;
      low = omega arith;
      rest = λ i l. refl;
      count_is = λ f l F. refl;
      numbers = λ f l F i h. absurd (not-suc-le-zero h);
    }

module _ {c capacity : ℕ} {p₀ p : List ℕ} {k count : ℕ} (S : NumberSweep c capacity p₀ p k count) (lk : k < c) where
  pub number-asks : (k < length p) × (get_or p k 0 ≤ k) × (count < 4294967295)
  number-asks = let a = S.room in let b = S.len in let e = S.rest k (le_refl k) in let d = S.down k lk in let f = S.few in let g = S.low in (omega arith, omega arith, omega arith)

  module _ (p' : List ℕ) (r : ℕ) (N : NumberedOne p p' k count r) where
    here : get_or p k 0 ≡ get_or p₀ k 0
    here = S.rest k (le_refl k)

    inside : k < length p
    inside = number-asks.0

    -- the count with run k, and what stands at run k then
    module _ (f : ℕ → ℕ) (low : (i : ℕ) → f i ≤ i) (F : Forest f p₀ c) where
      count-new : Dec (get_or p₀ k 0 ≡ k) → r ≡ count_if (is_root f) (suc k)
      count-new (yes e) = (N.new (here ∙ e)).0 ∙ (ap (λ z. z + 1) (S.count_is f low F) ∙ sym (names-new f k (F.root k lk e)))
      count-new (no ne) = (N.old (λ z. ne (sym here ∙ z))).0 ∙ (S.count_is f low F ∙ sym (names-old f k (λ z. ne (forest-root f p₀ c low F k lk z))))

      number-new-at : Dec (get_or p₀ k 0 ≡ k) → get_or p' k 0 ≡ component_number f k
      number-new-at (yes e) =
          ap (λ z. get_or z k 0) (N.new (here ∙ e)).1
          ∙ (get_or-set_same p k (count + 1) 0 inside ∙ (ap (λ z. z + 1) (S.count_is f low F) ∙ sym (number-new f k (F.root k lk e))))
      number-new-at (no ne) =
          let d = S.down k lk in
          let q : get_or p₀ k 0 < k = omega arith in
          ap (λ z. get_or z k 0) (N.old (λ z. ne (sym here ∙ z))).1
          ∙ (get_or-set_same p k (get_or p (get_or p k 0) 0) 0 inside
          ∙ (ap (λ z. get_or p z 0) here ∙ (S.numbers f low F (get_or p₀ k 0) q ∙ sym (number-old f (get_or p₀ k 0) k (F.same k lk)))))

    other : (i : ℕ) → (i ≡ k → ⊥) → get_or p' i 0 ≡ get_or p i 0
    other i ne = go (ℕ_discrete (get_or p k 0) k)
      where
        go : Dec (get_or p k 0 ≡ k) → get_or p' i 0 ≡ get_or p i 0
        go (yes e) = ap (λ z. get_or z i 0) (N.new e).1 ∙ get_or-set_other p k i (count + 1) 0 ne
        go (no n) = ap (λ z. get_or z i 0) (N.old n).1 ∙ get_or-set_other p k i (get_or p (get_or p k 0) 0) 0 ne

    step : r ≤ count + 1
    step = go (ℕ_discrete (get_or p k 0) k)
      where
        go : Dec (get_or p k 0 ≡ k) → r ≤ count + 1
        go (yes e) = let h = (N.new e).0 in omega arith
        go (no n) = let h = (N.old n).0 in omega arith

    pub number_more : r ≤ capacity → NumberSweep c capacity p₀ p' (k + 1) r
    number_more l =
        record {
          room = S.room;
          few = S.few;
          down = S.down;
          len = N.len ∙ S.len;
          upto = omega arith;
          low = l;
          rest = λ i h. other i (λ z. absurd (omega arith)) ∙ S.rest i (omega arith);
          count_is = λ f low F. rw (add-one k) (count-new f low F (ℕ_discrete (get_or p₀ k 0) k));
          numbers = λ f low F i h. at f low F i h (ℕ_discrete i k);
        }
      where
        at : (f : ℕ → ℕ) → ((i : ℕ) → f i ≤ i) → Forest f p₀ c → (i : ℕ) → i < k + 1 → Dec (i ≡ k) → get_or p' i 0 ≡ component_number f i
        at f low F i h (yes e) = subst (λ z. get_or p' z 0 ≡ component_number f z) (sym e) (number-new-at f low F (ℕ_discrete (get_or p₀ k 0) k))
        at f low F i h (no ne) = other i ne ∙ S.numbers f low F i (omega arith)

    pub number-stop : capacity < r → Numbered c capacity p₀ p' r
    number-stop l =
        record {
          len = N.len ∙ S.len;
          count = λ f low F.
              let e = count-new f low F (ℕ_discrete (get_or p₀ k 0) k) in
              let u = count-mono (is_root f) (suc k) c lk in
              let s = step in
              let g = S.low in
              omega arith;
          numbers = λ f low F h. absurd (omega arith);
        }

-- Heights counted component by component, and the unit by their counts.
use mathlib.Core.Path.{◌≡◌, refl, sym, ap, ◌∙◌, subst}
use mathlib.Core.List.{List, [], ◌∷◌, ◌++◌, map}
use mathlib.Core.Bool.{Bool, true, false, cond}
use Prim.Native.Nat.{ℕ, zero, suc, ◌+◌, ◌-◌, ◌≤◌, ◌<◌}
use native.Mathlib.Nat.{le_refl}
use native.Mathlib.Decide.{ℕ_discrete, dec_le}
use native.Mathlib.Numerals.{add-one}
use native.Mathlib.Omega.{arith}
use borrow.Author.Tests.{eq-eqb, ne_eqb}
use lib.ListN.{get_or, length, take, drop, set, length-take, get_or-eq_default}
use lib.Seq.{get_or-set_same, get_or-set_other, get_or-take, get_or-drop}
use lib.Dec.{eqb}
use Rattle.memory.specs.rules.Lists.{table, keep, occurs}
use Rattle.memory.proofs.TableLaws.{table-ext}
use Rattle.memory.specs.rules.Rects.{height}
use Rattle.labelling.specs.rules.Components.{box_of}
use Rattle.labelling.specs.declared.component.Component.{Component}
use Rattle.params.specs.declared.LayoutParams.{LayoutParams}
use Rattle.rounding.specs.rules.Lengths.{float}
use Rattle.sorting.specs.rules.Units.{measurable, median, unit_from, unit_of}
use Rattle.sorting.specs.stages.Counts.{CountsOf}
use Rattle.sorting.specs.declared.Unit.TheVariants.{Measured, Assumed}
use Rattle.memory.specs.stages.Boxes.{Inside}
use Rattle.memory.specs.stages.Stored.{Within, Stored}
use Rattle.sorting.specs.stages.Measures.{sized_at, sized_from, SizesInside, measured_heights, HeightsCounted}
use Rattle.memory.proofs.StoredLaws.{within_none, within-set, within-trans, within_wider}
use Rattle.sorting.proofs.SizedLaws.{sized_same, sized_past}

pub box-fits : (w h : ℕ) (c : Component) → Inside w h (box_of c) → w ≤ 4294967295 → h ≤ 4294967295 → Inside 4294967295 4294967295 (box_of c)
box-fits w h c b l k = record { columns = b.columns; right = (let z = b.right in omega arith); rows = b.rows; bottom = (let z = b.bottom in omega arith) }

-- Those that pass, with one more at the end
module _ {A : Type 0} (p : A → Bool) (f : A → ℕ) where
  kept-occurs : (v : ℕ) (l : List A) (a : A) → occurs v (map f (keep p (l ++ (a ∷ [])))) ≡ occurs v (map f (keep p l)) + cond (p a) (cond (eqb (f a) v) 1 0) 0
  unfolding keep occurs
  kept-occurs v [] a = go (p a)
    where
      go : (t : Bool) → occurs v (map f (cond t (a ∷ []) [])) ≡ 0 + cond t (cond (eqb (f a) v) 1 0) 0
      go true = omega arith
      go false = refl
  kept-occurs v (b ∷ l) a = go (p b) (kept-occurs v l a)
    where
      go : (t : Bool) → occurs v (map f (keep p (l ++ (a ∷ [])))) ≡ occurs v (map f (keep p l)) + cond (p a) (cond (eqb (f a) v) 1 0) 0
          → occurs v (map f (cond t (b ∷ keep p (l ++ (a ∷ []))) (keep p (l ++ (a ∷ []))))) ≡ occurs v (map f (cond t (b ∷ keep p l) (keep p l))) + cond (p a) (cond (eqb (f a) v) 1 0) 0
      go true e = omega (arith, e)
      go false e = e

  kept-length : (l : List A) (a : A) → length (map f (keep p (l ++ (a ∷ [])))) ≡ length (map f (keep p l)) + cond (p a) 1 0
  unfolding keep
  kept-length [] a = go (p a)
    where
      go : (t : Bool) → length (map f (cond t (a ∷ []) [])) ≡ 0 + cond t 1 0
      go true = refl
      go false = refl
  kept-length (b ∷ l) a = go (p b) (kept-length l a)
    where
      go : (t : Bool) → length (map f (keep p (l ++ (a ∷ [])))) ≡ length (map f (keep p l)) + cond (p a) 1 0
          → length (map f (cond t (b ∷ keep p (l ++ (a ∷ []))) (keep p (l ++ (a ∷ []))))) ≡ length (map f (cond t (b ∷ keep p l) (keep p l))) + cond (p a) 1 0
      go true e = omega (arith, e)
      go false e = e

pub one_at_most : (t : Bool) → cond t 1 0 ≤ 1
one_at_most true = omega arith
one_at_most false = omega arith

both-at-most : (t u : Bool) → cond t (cond u 1 0) 0 ≤ 1
both-at-most true u = one_at_most u
both-at-most false u = omega arith

module _ (p : LayoutParams) (w h : ℕ) (s : List ℕ) (sizes : ℕ) where
  abbrev listed : ℕ → List ℕ
  listed k = measured_heights p w h (sized_from s sizes k)

  abbrev high_at : ℕ → ℕ
  high_at k = height (box_of (sized_at s sizes k))

  occurs-more : (v k : ℕ) → occurs v (listed (suc k)) ≡ occurs v (listed k) + cond (measurable p w h (sized_at s sizes k)) (cond (eqb (high_at k) v) 1 0) 0
  unfolding table
  occurs-more v k = kept-occurs (measurable p w h) (λ (c : Component). height (box_of c)) v (sized_from s sizes k) (sized_at s sizes k)

  length_more : (k : ℕ) → length (listed (suc k)) ≡ length (listed k) + cond (measurable p w h (sized_at s sizes k)) 1 0
  unfolding table
  length_more k = kept-length (measurable p w h) (λ (c : Component). height (box_of c)) (sized_from s sizes k) (sized_at s sizes k)

  few : (k : ℕ) → (length (listed k) ≤ k) × ((v : ℕ) → occurs v (listed k) ≤ k)
  unfolding table keep occurs
  few zero = (le_refl 0, λ v. le_refl 0)
  few (suc k) =
      let i = few k in (
        (let a = length_more k in let b = one_at_most (measurable p w h (sized_at s sizes k)) in let c = i.0 in omega arith),
        λ v. (let a = occurs-more v k in let b = both-at-most (measurable p w h (sized_at s sizes k)) (eqb (high_at k) v) in let c = i.1 v in omega arith),
      )

  -- no height is more than the frame's
  none-higher : (k v : ℕ) → h < v → ((j : ℕ) → j < k → Inside w h (box_of (sized_at s sizes j))) → occurs v (listed k) ≡ 0
  unfolding table keep occurs
  none-higher zero v l b = refl
  none-higher (suc k) v l b =
      let i = none-higher k v l (λ j c. b j (omega arith)) in
      let e : eqb (high_at k) v ≡ false = ne_eqb (high_at k) v (λ z. let x = (b k (le_refl (suc k))).bottom in omega arith) in
      occurs-more v k ∙ rw (i, e) (zero-either (measurable p w h (sized_at s sizes k)))
    where
      zero-either : (t : Bool) → 0 + cond t 0 0 ≡ 0
      zero-either true = refl
      zero-either false = refl

  pub counted_none : (at : ℕ) → ((v : ℕ) → v ≤ h → get_or s (at + v) 0 ≡ 0) → HeightsCounted p w h sizes at 0 0 s s
  unfolding table keep occurs
  counted_none at z = record { number = refl; each = z; within = within_none at (at + h + 1) s }

  module _ {at k n : ℕ} {t : List ℕ} (H : HeightsCounted p w h sizes at k n s t) (apart : at + h + 1 ≤ sizes) where
    pub counted_same : (j : ℕ) → sized_at t sizes j ≡ sized_at s sizes j
    counted_same j = sized_same s t sizes j (λ i a b. H.within.past i (omega arith))

    -- so few that one more fits
    pub counted-few : (n ≤ k) × ((v : ℕ) → v ≤ h → get_or t (at + v) 0 ≤ k)
    counted-few = ((let a = (few k).0 in let b = H.number in omega arith), λ v l. (let a = (few k).1 v in let b = H.each v l in omega arith))

    core : (r : ℕ) → Inside w h (box_of (sized_at s sizes k)) → at + h + 1 ≤ length s → r ≡ cond (measurable p w h (sized_at s sizes k)) 1 0
        → HeightsCounted p w h sizes at (suc k) (n + r) s (set t (at + high_at k) (get_or t (at + high_at k) 0 + r))
    core r box room one =
        let low : high_at k ≤ h = (let x = box.bottom in omega arith) in
        record {
          number = (let a = length_more k in let b = H.number in omega arith);
          each = λ v l. at_each v l low (ℕ_discrete v (high_at k));
          within = within-set H.within (at + high_at k) (get_or t (at + high_at k) 0 + r) (omega arith) (omega arith);
        }
      where
        with-one : (b : Bool) → ◌≡◌ {A = ℕ} (cond b 1 0) (cond b (cond true 1 0) 0)
        with-one true = refl
        with-one false = refl

        with_none : (b : Bool) → ◌≡◌ {A = ℕ} 0 (cond b (cond false 1 0) 0)
        with_none true = refl
        with_none false = refl

        at_each : (v : ℕ) → v ≤ h → high_at k ≤ h → Dec (v ≡ high_at k) → get_or (set t (at + high_at k) (get_or t (at + high_at k) 0 + r)) (at + v) 0 ≡ occurs v (listed (suc k))
        at_each v l low (yes e) =
            let a : get_or t (at + high_at k) 0 ≡ occurs (high_at k) (listed k) = H.each (high_at k) low in
            let x : at + v ≡ at + high_at k = omega arith in
            let q = H.within.len in
            ap (λ i. get_or (set t (at + high_at k) (get_or t (at + high_at k) 0 + r)) i 0) x
            ∙ (get_or-set_same t (at + high_at k) (get_or t (at + high_at k) 0 + r) 0 (omega arith)
            ∙ ((λ i. a i + (one ∙ with-one (measurable p w h (sized_at s sizes k))) i)
            ∙ (ap (λ b. occurs (high_at k) (listed k) + cond (measurable p w h (sized_at s sizes k)) (cond b 1 0) 0) (sym (eq-eqb (high_at k) (high_at k) refl))
            ∙ (sym (occurs-more (high_at k) k) ∙ ap (λ z. occurs z (listed (suc k))) (sym e)))))
        at_each v l low (no e) =
            let z : occurs v (listed k) ≡ occurs v (listed k) + 0 = omega arith in
            get_or-set_other t (at + high_at k) (at + v) (get_or t (at + high_at k) 0 + r) 0 (λ x. e (omega arith))
            ∙ (H.each v l
            ∙ (z
            ∙ (ap (λ (y : ℕ). occurs v (listed k) + y) (with_none (measurable p w h (sized_at s sizes k)))
            ∙ (ap (λ b. occurs v (listed k) + cond (measurable p w h (sized_at s sizes k)) (cond b 1 0) 0) (sym (ne_eqb (high_at k) v (λ x. e (sym x))))
            ∙ sym (occurs-more v k)))))

    -- one component more
    pub counted-more : (c : Component) (r : ℕ) (u : List ℕ) → c ≡ sized_at t sizes k → Inside w h (box_of (sized_at s sizes k)) → at + h + 1 ≤ length s
        → r ≡ cond (measurable p w h c) 1 0 → u ≡ set t (at + height (box_of c)) (get_or t (at + height (box_of c)) 0 + r)
        → HeightsCounted p w h sizes at (k + 1) (n + r) s u
    counted-more c r u e box room one q =
        let d : c ≡ sized_at s sizes k = e ∙ counted_same k in
        let one' : r ≡ cond (measurable p w h (sized_at s sizes k)) 1 0 = one ∙ ap (λ (c : Component). cond (measurable p w h c) 1 0) d in
        let q' : u ≡ set t (at + high_at k) (get_or t (at + high_at k) 0 + r) = q ∙ ap (λ (c : Component). set t (at + height (box_of c)) (get_or t (at + height (box_of c)) 0 + r)) d in
        subst (λ (j : ℕ). HeightsCounted p w h sizes at j (n + r) s u) (sym (add-one k))
        (subst (λ (l : List ℕ). HeightsCounted p w h sizes at (suc k) (n + r) s l) (sym q') (core r box room one'))

-- the counts of all heights
pub counted-all : (p : LayoutParams) (w h sizes at k n : ℕ) (s t : List ℕ) → HeightsCounted p w h sizes at k n s t → SizesInside w h s sizes k → at + h + 1 ≤ length s
    → CountsOf (take (at + (h + 1) - at) (drop at t)) n (measured_heights p w h (sized_from s sizes k))
counted-all p w h sizes at k n s t H S room = record { size = sym H.number; each = λ v. go v (dec_le v h) }
  where
    go : (v : ℕ) → Dec (v ≤ h) → get_or (take (at + (h + 1) - at) (drop at t)) v 0 ≡ occurs v (measured_heights p w h (sized_from s sizes k))
    go v (yes l) = get_or-take (at + (h + 1) - at) (drop at t) v 0 (omega arith) ∙ (get_or-drop at t v 0 ∙ H.each v l)
    go v (no l) =
        get_or-eq_default (take (at + (h + 1) - at) (drop at t)) 0 (let e = length-take (at + (h + 1) - at) (drop at t) in omega arith)
        ∙ sym (none-higher p w h s sizes k v (omega arith) S.inside)

-- no height, or their median
pub unit-none : (p : LayoutParams) (n : ℕ) (l counts : List ℕ) → n ≡ 0 → CountsOf counts n l → Assumed p.xheight_fallback_px ≡ unit_from p l
unfolding unit_from
unit-none p n [] counts e C = refl
unit-none p n (a ∷ l) counts e C = absurd (let z = C.size in omega arith)

pub unit-some : (p : LayoutParams) (n m : ℕ) (l counts : List ℕ) → (n ≡ 0 → ⊥) → CountsOf counts n l → m ≡ median l → Measured (float m) ≡ unit_from p l
unfolding unit_from
unit-some p n m [] counts e C q = absurd (e (let z = C.size in omega arith))
unit-some p n m (a ∷ l) counts e C q = ap (λ (k : ℕ). Measured (float k)) q

-- what stood before the counts were cleared stands past them still
pub inside_past : {w h sizes n a e : ℕ} {s t : List ℕ} → SizesInside w h s sizes n → Within a e s t → e ≤ sizes → SizesInside w h t sizes n
inside_past {w} {h} {sizes} S W l =
    record { room = (let r = S.room in let z = W.len in omega arith); inside = λ k b. subst (λ (c : Component). Inside w h (box_of c)) (sym (sized_past W sizes k l)) (S.inside k b) }

pub unit-past : (p : LayoutParams) (w h sizes n : ℕ) {a e : ℕ} {s t : List ℕ} → Within a e s t → e ≤ sizes
    → unit_from p (measured_heights p w h (sized_from t sizes n)) ≡ unit_of p w h (sized_from s sizes n)
unfolding unit_of
unit-past p w h sizes n {s = s} {t = t} W l =
    ap (λ (cs : List Component). unit_from p (measured_heights p w h cs)) (table-ext (sized_at t sizes) (sized_at s sizes) n (λ k b. sized_past W sizes k l))

pub cleared-within : (h : ℕ) {at : ℕ} {s t u : List ℕ} → Stored (λ _. 0) at (h + 1) s t → Within at (at + h + 1) t u → Within at (at + h + 1) s u
cleared-within h C W = within-trans (within_wider C.within (omega arith) (omega arith)) W

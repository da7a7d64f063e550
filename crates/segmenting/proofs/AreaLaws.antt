-- The areas of the components of a kind together are the dots of that kind, and what is left of the ink is cut.
use mathlib.Core.Path.{◌≡◌, refl, sym, ap, ◌∙◌, subst}
use mathlib.Core.Bool.{Bool, true, false, cond}
use mathlib.Core.List.{List, [], ◌∷◌, map}
use Prim.Native.Nat.{ℕ, zero, suc, ◌+◌, ◌-◌, ◌*◌, ◌≤◌, ◌<◌}
use native.Mathlib.Nat.{le_refl}
use native.Mathlib.Decide.{ℕ_discrete}
use native.Mathlib.Omega.{arith}
use borrow.Author.Tests.{eq-eqb, ne_eqb}
use lib.ListN.{get_or, length}
use lib.Dec.{eqb}
use Rattle.memory.specs.rules.Lists.{upto, keep, count_if, occurs, total}
use Rattle.memory.specs.rules.Limits.{max_mask_dots}
use Rattle.memory.proofs.CountLaws.{count-ext, occurs-table}
use Rattle.memory.specs.rules.Masks.{is_ink}
use Rattle.labelling.specs.rules.Labels.{labelling}
use Rattle.labelling.specs.stages.Sizes.{HoldsSizes}
use Rattle.labelling.proofs.SizeLaws.{size-at}
use Rattle.labelling.proofs.Theorems.{label-within, label-blank, records-right}
use Rattle.params.specs.declared.LayoutParams.{LayoutParams}
use Rattle.sorting.specs.stages.Scratch.{ink_after_cut}
use Rattle.sorting.specs.rules.Sorted.{sorted, kind_counts}
use Rattle.sorting.proofs.KindLaws.{kinds-add-up}
use Rattle.segmenting.specs.stages.Held.{held_kind, KindsHeld, of_kind, held_area}
use Rattle.segmenting.specs.stages.Painting.{painted_kind}
use Rattle.memory.proofs.PlaceLaws.{once}
use Rattle.segmenting.proofs.SortedWords.{kept_map, sorted-plane}

-- Each dot is counted once, at its label

-- a label, counted from 1, passes where its component does
label_passes : (ℕ → Bool) → ℕ → Bool
label_passes q zero = false
label_passes q (suc j) = q j

total-none : (l : List ℕ) → total (map (λ k. 0) l) ≡ 0
unfolding total
total-none [] = refl
total-none (a ∷ l) = let e = total-none l in omega arith

total-same : (f g : ℕ → ℕ) → ((k : ℕ) → f k ≡ g k) → (l : List ℕ) → total (map f l) ≡ total (map g l)
unfolding total
total-same f g h [] = refl
total-same f g h (a ∷ l) = λ i. h a i + total-same f g h l i

total-add : (f g : ℕ → ℕ) (l : List ℕ) → total (map (λ k. f k + g k) l) ≡ total (map f l) + total (map g l)
unfolding total
total-add f g [] = refl
total-add f g (a ∷ l) = let e = total-add f g l in omega arith

total-occurs : (j : ℕ) (l : List ℕ) → total (map (λ k. cond (eqb k j) 1 0) l) ≡ occurs j l
unfolding total occurs
total-occurs j [] = refl
total-occurs j (a ∷ l) = ap (λ z. cond (eqb a j) 1 0 + z) (total-occurs j l)

abbrev bit : Bool → ℕ
bit t = cond t 1 0

no_label : (k : ℕ) → bit (eqb 0 (suc k)) ≡ 0
no_label k = ap bit (ne_eqb 0 (suc k) (λ e. omega arith))

same-label : (j k : ℕ) → bit (eqb (suc j) (suc k)) ≡ bit (eqb k j)
same-label j k = go (ℕ_discrete k j)
  where
    go : Dec (k ≡ j) → bit (eqb (suc j) (suc k)) ≡ bit (eqb k j)
    go (yes e) = ap bit (eq-eqb (suc j) (suc k) (ap suc (sym e)) ∙ sym (eq-eqb k j e))
    go (no e) = ap bit (ne_eqb (suc j) (suc k) (λ q. e (omega arith)) ∙ sym (ne_eqb k j e))

counted-once : (q : ℕ → Bool) (c l : ℕ) → l ≤ c → total (map (λ k. cond (eqb l (suc k)) 1 0) (keep q (upto c))) ≡ cond (label_passes q l) 1 0
unfolding label_passes
counted-once q c zero h = total-same (λ k. cond (eqb 0 (suc k)) 1 0) (λ k. 0) no_label (keep q (upto c)) ∙ total-none (keep q (upto c))
counted-once q c (suc j) h =
    total-same (λ k. cond (eqb (suc j) (suc k)) 1 0) (λ k. cond (eqb k j) 1 0) (same-label j) (keep q (upto c))
    ∙ (total-occurs j (keep q (upto c)) ∙ once q c j h)

counts-by-label : (label : ℕ → ℕ) (q : ℕ → Bool) (c n : ℕ) → ((i : ℕ) → i < n → label i ≤ c)
    → total (map (λ k. count_if (λ i. eqb (label i) (suc k)) n) (keep q (upto c))) ≡ count_if (λ i. label_passes q (label i)) n
unfolding count_if
counts-by-label label q c zero h = total-none (keep q (upto c))
counts-by-label label q c (suc n) h =
    total-add (λ k. count_if (λ i. eqb (label i) (suc k)) n) (λ k. cond (eqb (label n) (suc k)) 1 0) (keep q (upto c))
    ∙ (λ i. counts-by-label label q c n (λ j l. h j (omega arith)) i + counted-once q c (label n) (h n (le_refl (suc n))) i)

-- The components of a mask

module _ (w h : ℕ) (m s : List ℕ) (sizes kinds kind : ℕ) (dots : w * h ≤ max_mask_dots) (H : HoldsSizes (labelling w h m).components s sizes) where
  labels-low : (i : ℕ) → i < w * h → get_or (labelling w h m).labels i 0 ≤ length (labelling w h m).components
  labels-low i l = go (is_ink m i) refl
    where
      go : (t : Bool) → is_ink m i ≡ t → get_or (labelling w h m).labels i 0 ≤ length (labelling w h m).components
      go true e = (label-within w h m i l e).1
      go false e = let z = label-blank w h m i l e in omega arith

  -- the area read counts the dots whose component is of the kind
  area-counts : held_area s sizes kinds kind (length (labelling w h m).components) ≡ count_if (λ i. label_passes (λ k. eqb (held_kind s kinds k) kind) (get_or (labelling w h m).labels i 0)) (w * h)
  unfolding held_area of_kind upto
  area-counts =
      ap total
      (kept_map (λ k. eqb (held_kind s kinds k) kind) (λ k. eqb (held_kind s kinds k) kind) (λ k. get_or s (sizes + 5 * k) 0) (λ k. count_if (λ i. eqb (get_or (labelling w h m).labels i 0) (suc k)) (w * h)) (λ k. k) (length (labelling w h m).components) (λ k l. refl)
      (λ k l. (size-at (labelling w h m).components s sizes k H l).area ∙ (records-right w h m dots k l).area))
      ∙ counts-by-label (λ i. get_or (labelling w h m).labels i 0) (λ k. eqb (held_kind s kinds k) kind) (length (labelling w h m).components) (w * h) labels-low

-- An ink plane sorted

module _ (w h : ℕ) (m ink s : List ℕ) (kinds kind : ℕ) (ones : (i : ℕ) → get_or ink i 0 ≤ 1) (some : 1 < kind) where
  -- a dot of the kind is one whose component is
  dot-of-kind : (i : ℕ) → i < w * h → label_passes (λ k. eqb (held_kind s kinds k) kind) (get_or (labelling w h m).labels i 0) ≡ eqb (painted_kind m (labelling w h m).labels s kinds ink i) kind
  unfolding painted_kind label_passes
  dot-of-kind i l = go (is_ink m i) refl
    where
      at : (k : ℕ) → 0 < k → label_passes (λ k. eqb (held_kind s kinds k) kind) k ≡ eqb (held_kind s kinds (k - 1)) kind
      at zero a = absurd (omega arith)
      at (suc k) a = ap (λ z. eqb (held_kind s kinds z) kind) (let e : k ≡ suc k - 1 = omega arith in e)

      go : (t : Bool) → is_ink m i ≡ t → label_passes (λ k. eqb (held_kind s kinds k) kind) (get_or (labelling w h m).labels i 0)
          ≡ eqb (cond (is_ink m i) (held_kind s kinds (get_or (labelling w h m).labels i 0 - 1)) (get_or ink i 0)) kind
      go true e = at (get_or (labelling w h m).labels i 0) (label-within w h m i l e).0 ∙ sym (ap (λ z. eqb (cond z (held_kind s kinds (get_or (labelling w h m).labels i 0 - 1)) (get_or ink i 0)) kind) e)
      go false e =
          ap (label_passes (λ k. eqb (held_kind s kinds k) kind)) (label-blank w h m i l e)
          ∙ (none
          ∙ sym (ap (λ z. eqb (cond z (held_kind s kinds (get_or (labelling w h m).labels i 0 - 1)) (get_or ink i 0)) kind) e ∙ ne_eqb (get_or ink i 0) kind (λ q. let o = ones i in omega arith)))
        where
          none : label_passes (λ k. eqb (held_kind s kinds k) kind) 0 ≡ false
          none = refl

module _ (p : LayoutParams) (w h : ℕ) (m s : List ℕ) (sizes kinds : ℕ) (wide : 0 < w) (dots : w * h ≤ max_mask_dots) (ones : (i : ℕ) → get_or m i 0 ≤ 1)
    (H : HoldsSizes (sorted p w h m).rest.components s sizes) (K : KindsHeld (sorted p w h m).kinds s kinds) where
  rest-is : (sorted p w h m).rest ≡ labelling w h (ink_after_cut p w h m)
  unfolding sorted ink_after_cut
  rest-is = refl

  -- the components of a kind have the dots of that kind
  pub sorted-area : (kind : ℕ) → 1 < kind → held_area s sizes kinds kind (length (sorted p w h m).rest.components) ≡ occurs kind (sorted p w h m).plane
  sorted-area kind l =
      ap (λ z. held_area s sizes kinds kind (length z.components)) rest-is
      ∙ (area-counts w h (ink_after_cut p w h m) s sizes kinds kind dots (subst (λ z. HoldsSizes z.components s sizes) rest-is H)
      ∙ (count-ext _ _ (w * h) (dot-of-kind w h (ink_after_cut p w h m) m s kinds kind ones l)
      ∙ (sym (occurs-table kind (painted_kind (ink_after_cut p w h m) (labelling w h (ink_after_cut p w h m)).labels s kinds m) (w * h)) ∙ ap (occurs kind) (sorted-plane p w h m s kinds wide ones K))))

  -- with the cut dots they are the ink
  pub sorted-cut : length m ≡ w * h
      → occurs 1 (sorted p w h m).plane
      + (held_area s sizes kinds 2 (length (sorted p w h m).rest.components) + (held_area s sizes kinds 3 (length (sorted p w h m).rest.components) + (held_area s sizes kinds 4 (length (sorted p w h m).rest.components) + held_area s sizes kinds 5 (length (sorted p w h m).rest.components))))
      ≡ occurs 1 m
  unfolding kind_counts
  sorted-cut e =
      let a = sorted-area 2 (omega arith) in
      let b = sorted-area 3 (omega arith) in
      let c = sorted-area 4 (omega arith) in
      let d = sorted-area 5 (omega arith) in
      let t = kinds-add-up p w h m wide e ones in
      omega arith

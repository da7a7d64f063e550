-- The components of a mask: their boxes lie inside it, and their areas add up to its ink.
use mathlib.Core.Path.{◌≡◌, refl, sym, ap, ◌∙◌}
use mathlib.Core.List.{List, [], map}
use mathlib.Core.Bool.{Bool, true, false, cond}
use Prim.Native.Nat.{ℕ, zero, suc, ◌+◌, ◌*◌, ◌≤◌, ◌<◌}
use native.Mathlib.Nat.{le_refl}
use native.Mathlib.Decide.{ℕ_discrete}
use native.Mathlib.Omega.{arith}
use borrow.Author.Tests.{eq-eqb, ne_eqb}
use lib.ListN.{get_or, length, length-map, get_or-map}
use lib.Seq.{ext_get_or}
use lib.Dec.{eqb}
use Rattle.memory.specs.rules.Lists.{table, count_if, occurs, total}
use Rattle.memory.proofs.CountLaws.{count_none}
use Rattle.memory.proofs.TableLaws.{length-table, get_or-table}
use Rattle.labelling.specs.rules.Components.{box_of, no_dots}
use Rattle.memory.specs.rules.Masks.{is_ink}
use Rattle.labelling.specs.rules.Labels.{labelling, touches, is_first, label_at, component_to}
use Rattle.union_find.specs.rules.Classes.{firsts}
use Rattle.labelling.specs.declared.component.Component.{Component}
use Rattle.labelling.proofs.Theorems.{label, count, label-within, label-blank, records-right}
use Rattle.labelling.proofs.SizeLaws.{component-boxed}
use Rattle.rulings.specs.stages.Marks.{Blank}
use Rattle.memory.specs.stages.Boxes.{Inside}
use Rattle.extents.proofs.MaskLaws.{ink-count}
use Rattle.sorting.proofs.AreaLaws.{total-more}

-- each has a dot, so that its box is one of dots of the mask
pub box-inside : (w h : ℕ) (m : List ℕ) → 0 < w → w * h ≤ 1073741824 → (k : ℕ) → k < length (labelling w h m).components
    → Inside w h (box_of (get_or (labelling w h m).components k no_dots))
box-inside w h m wide few k l =
    let B = component-boxed w h m wide few k l in
    record { columns = B.wide; right = B.right; rows = B.high; bottom = B.bottom }

-- a mask without ink has none
pub blank_none : (w h : ℕ) (m : List ℕ) → Blank m (w * h) → (labelling w h m).components ≡ []
unfolding labelling table
blank_none w h m none =
    let l = firsts (touches w m) (w * h) in
    ap (λ (n : ℕ). table (λ k. component_to w (table (label_at m l) (w * h)) (suc k) (w * h)) n)
    (count_none (is_first m l) (w * h) (λ i b. unfold is_first in rw (none i b)))

-- Sums

total-add : (f g : ℕ → ℕ) (n : ℕ) → total (table (λ k. f k + g k) n) ≡ total (table f n) + total (table g n)
unfolding table total
total-add f g zero = refl
total-add f g (suc n) =
    let a = total-more (λ k. f k + g k) n in let b = total-more f n in let c = total-more g n in let d = total-add f g n in omega arith

total-zeros : (n : ℕ) → total (table (λ k. 0) n) ≡ 0
unfolding table total
total-zeros zero = refl
total-zeros (suc n) = total-more (λ k. 0) n ∙ rw (total-zeros n)

none_is : (v n : ℕ) → ((k : ℕ) → k < n → v ≡ suc k → ⊥) → total (table (λ k. cond (eqb v (suc k)) 1 0) n) ≡ 0
unfolding table total
none_is v zero h = refl
none_is v (suc n) h =
    total-more (λ k. cond (eqb v (suc k)) 1 0) n ∙ rw (none_is v n (λ k l. h k (omega arith)), ne_eqb v (suc n) (h n (le_refl (suc n))))

one-is : (v n : ℕ) → 0 < v → v ≤ n → total (table (λ k. cond (eqb v (suc k)) 1 0) n) ≡ 1
one-is v zero l h = absurd (omega arith)
one-is v (suc n) l h = total-more (λ k. cond (eqb v (suc k)) 1 0) n ∙ go (λ b. one-is v n l b) (ℕ_discrete v (suc n))
  where
    go : (v ≤ n → total (table (λ k. cond (eqb v (suc k)) 1 0) n) ≡ 1) → Dec (v ≡ suc n) → total (table (λ k. cond (eqb v (suc k)) 1 0) n) + cond (eqb v (suc n)) 1 0 ≡ 1
    go ih (yes e) = rw (none_is v n (λ k b q. omega arith), eq-eqb v (suc n) e)
    go ih (no e) = rw (ih (omega arith), ne_eqb v (suc n) e)

module _ (w h : ℕ) (m : List ℕ) where
  one_label : (i : ℕ) → i < w * h → (b : Bool) → is_ink m i ≡ b → total (table (λ k. cond (eqb (label w h m i) (suc k)) 1 0) (count w h m)) ≡ cond b 1 0
  one_label i l true e = let r = label-within w h m i l e in one-is (label w h m i) (count w h m) r.0 r.1
  one_label i l false e = none_is (label w h m i) (count w h m) (λ k b q. let z = label-blank w h m i l e in omega arith)

  labels-total : (n : ℕ) → n ≤ w * h → total (table (λ k. count_if (λ i. eqb (label w h m i) (suc k)) n) (count w h m)) ≡ count_if (is_ink m) n
  unfolding count_if
  labels-total zero l = total-zeros (count w h m)
  labels-total (suc n) l =
      total-add (λ k. count_if (λ i. eqb (label w h m i) (suc k)) n) (λ k. cond (eqb (label w h m n) (suc k)) 1 0) (count w h m)
      ∙ (λ i. labels-total n (omega arith) i + one_label n l (is_ink m n) refl i)

  -- the areas add up to the ink
  pub areas-ink : w * h ≤ 1073741824 → length m ≡ w * h → ((i : ℕ) → get_or m i 0 ≤ 1) → total (map (λ (c : Component). c.area) (labelling w h m).components) ≡ occurs 1 m
  areas-ink few whole bits = ap total by_number ∙ (labels-total (w * h) (le_refl (w * h)) ∙ ink-count w h m whole bits)
    where
      by_number : map (λ (c : Component). c.area) (labelling w h m).components ≡ table (λ k. count_if (λ i. eqb (label w h m i) (suc k)) (w * h)) (count w h m)
      by_number =
          ext_get_or no_dots.area (map (λ (c : Component). c.area) (labelling w h m).components) (table (λ k. count_if (λ i. eqb (label w h m i) (suc k)) (w * h)) (count w h m))
          (length-map (labelling w h m).components (λ (c : Component). c.area) ∙ sym (length-table _ (count w h m)))
          (λ k l. let b : k < count w h m = (let e = length-map (labelling w h m).components (λ (c : Component). c.area) in omega arith) in
          get_or-map (λ (c : Component). c.area) (labelling w h m).components k no_dots ∙ ((records-right w h m few k b).area ∙ sym (get_or-table _ (count w h m) k no_dots.area b)))

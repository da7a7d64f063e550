-- The masks of the dots that pass, by the marks of the cuts: the two cut masks, and the ink after the cut.
use mathlib.Core.Path.{◌≡◌, refl, sym, ap, ◌∙◌}
use mathlib.Core.Bool.{Bool, true, false, cond, ◌&&◌, ◌||◌, not}
use mathlib.Core.List.{List}
use Prim.Native.Nat.{ℕ, ◌+◌, ◌*◌, ◌/◌, ◌%◌, ◌≤◌, ◌<◌}
use native.Mathlib.Omega.{arith}
use lib.ListN.{get_or, drop}
use lib.Seq.{get_or-drop}
use lib.Dec.{eqb, ltb}
use Rattle.memory.proofs.TableLaws.{table-ext}
use Rattle.memory.specs.rules.Masks.{is_ink}
use Rattle.labelling.specs.stages.Marked.{passes, passing}
use Rattle.labelling.specs.declared.marked.Test.{Test}
use Rattle.labelling.specs.declared.marked.Test.TheVariants.{First, Second, Neither}
use Rattle.extents.specs.rules.Extents.{Plane, mask_of}
use Rattle.rulings.specs.rules.Rulings.{cut_horizontal, cut_vertical, after_cut}
use Rattle.rulings.specs.stages.Marks.{cut_mark}
use Rattle.sorting.specs.stages.Scratch.{marks_at, horizontal_at}
use Rattle.extents.proofs.MaskLaws.{is_ink-mask_of}
use Rattle.rulings.proofs.RulingMasks.{horizontal-blank, vertical-blank, after_cut-ink}
use Rattle.sorting.specs.stages.SortSteps.{passed}

-- the same marks pass the same dots
pub passed-same : (t : Test) (w h : ℕ) (m s u : List ℕ) → ((i : ℕ) → marks_at (w * h) ≤ i → i < horizontal_at (w * h) → get_or u i 0 ≡ get_or s i 0) → passed t w h m u ≡ passed t w h m s
unfolding passing
passed-same t w h m s u e =
    table-ext (λ i. cond (passes t (is_ink m i) (get_or (drop (marks_at (w * h)) u) i 0)) 1 0) (λ i. cond (passes t (is_ink m i) (get_or (drop (marks_at (w * h)) s) i 0)) 1 0) (w * h)
    (λ i l. ap (λ (k : ℕ). cond (passes t (is_ink m i) k) 1 0) (get_or-drop (marks_at (w * h)) u i 0 ∙ (e (marks_at (w * h) + i) (omega arith) (omega arith) ∙ sym (get_or-drop (marks_at (w * h)) s i 0))))

-- a mask by the test that passes where it has ink
passing-mask : (t : Test) (w h : ℕ) (m marks : List ℕ) (p : Plane) → ((i : ℕ) → i < w * h → passes t (is_ink m i) (get_or marks i 0) ≡ is_ink (mask_of w h p) i) → passing t m marks (w * h) ≡ mask_of w h p
unfolding passing mask_of
passing-mask t w h m marks p e =
    table-ext (λ i. cond (passes t (is_ink m i) (get_or marks i 0)) 1 0) (λ i. cond (p (i % w) (i / w)) 1 0) (w * h) (λ i l. ap (λ (b : Bool). cond b 1 0) (e i l ∙ is_ink-mask_of w h p i l))

first_bit : (a b : Bool) → eqb ((cond a 1 0 + cond b 2 0) % 2) 1 ≡ a
first_bit true true = refl
first_bit true false = refl
first_bit false true = refl
first_bit false false = refl

second-bit : (a b : Bool) → ltb 1 (cond a 1 0 + cond b 2 0) ≡ b
second-bit true true = refl
second-bit true false = refl
second-bit false true = refl
second-bit false false = refl

-- what is cut is ink
on-ink : (x y : Bool) → (x ≡ false → y ≡ false) → (x && y) ≡ y
on-ink true y f = refl
on-ink false y f = sym (f refl)

neither-bit : (a b : Bool) → eqb (cond a 1 0 + cond b 2 0) 0 ≡ not (a || b)
neither-bit true true = refl
neither-bit true false = refl
neither-bit false true = refl
neither-bit false false = refl

module _ (run_min thick_max w h : ℕ) (m marks : List ℕ) (told : (i : ℕ) → i < w * h → get_or marks i 0 ≡ cut_mark run_min thick_max w h m i) where
  a : List ℕ
  a = cut_horizontal run_min thick_max w h m

  b : List ℕ
  b = cut_vertical run_min thick_max w h m

  mark : (i : ℕ) → i < w * h → get_or marks i 0 ≡ cond (is_ink a i) 1 0 + cond (is_ink b i) 2 0
  unfolding cut_mark a b
  mark i l = told i l

  first-ink : 0 < w → (i : ℕ) → i < w * h → passes First (is_ink m i) (get_or marks i 0) ≡ is_ink a i
  unfolding a
  first-ink wide i l =
      ap (λ (k : ℕ). is_ink m i && eqb (k % 2) 1) (mark i l)
      ∙ (ap (λ (t : Bool). is_ink m i && t) (first_bit (is_ink a i) (is_ink b i)) ∙ on-ink (is_ink m i) (is_ink a i) (horizontal-blank run_min thick_max w h m wide i l))

  second-ink : 0 < w → (i : ℕ) → i < w * h → passes Second (is_ink m i) (get_or marks i 0) ≡ is_ink b i
  unfolding b
  second-ink wide i l =
      ap (λ (k : ℕ). is_ink m i && ltb 1 k) (mark i l)
      ∙ (ap (λ (t : Bool). is_ink m i && t) (second-bit (is_ink a i) (is_ink b i)) ∙ on-ink (is_ink m i) (is_ink b i) (vertical-blank run_min thick_max w h m wide i l))

  pub passing-first : 0 < w → passing First m marks (w * h) ≡ cut_horizontal run_min thick_max w h m
  unfolding a cut_horizontal
  passing-first wide = passing-mask First w h m marks _ (first-ink wide)

  pub passing-second : 0 < w → passing Second m marks (w * h) ≡ cut_vertical run_min thick_max w h m
  unfolding b cut_vertical
  passing-second wide = passing-mask Second w h m marks _ (second-ink wide)

  pub passing-neither : 0 < w → passing Neither m marks (w * h) ≡ after_cut w h (cut_horizontal run_min thick_max w h m) (cut_vertical run_min thick_max w h m) m
  unfolding a b after_cut
  passing-neither wide =
      passing-mask Neither w h m marks _
      (λ i l. ap (λ (k : ℕ). is_ink m i && eqb k 0) (mark i l) ∙ (ap (λ (t : Bool). is_ink m i && t) (neither-bit (is_ink a i) (is_ink b i)) ∙ sym (after_cut-ink w h a b m i wide l)))

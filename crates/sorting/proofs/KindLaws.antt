-- Each ink dot has exactly one of the five kinds and a blank dot has 0, so the five counts add up to the ink.
use mathlib.Core.Path.{◌≡◌, refl, sym, ap, ◌∙◌, subst}
use mathlib.Core.List.{List, [], ◌∷◌, map}
use mathlib.Core.Bool.{Bool, true, false, cond, ◌||◌, true≢false}
use Prim.Native.Nat.{ℕ, zero, suc, ◌+◌, ◌*◌, ◌≤◌, ◌<◌}
use native.Mathlib.Nat.{not-suc-le-zero, le_refl}
use native.Mathlib.Omega.{arith}
use lib.ListN.{get_or, length}
use lib.Dec.{eqb, ltb}
use lib.Ieee.{Float}
use Rattle.memory.specs.rules.Lists.{table, count_if, occurs}
use Rattle.memory.proofs.TableLaws.{length-table, get_or-table}
use Rattle.union_find.specs.rules.Classes.{firsts}
use Rattle.memory.specs.rules.Rects.{width, height}
use Rattle.labelling.specs.rules.Components.{box_of}
use Rattle.memory.specs.rules.Masks.{is_ink}
use Rattle.labelling.specs.rules.Labels.{touches, is_first, label_at, labelling}
use Rattle.labelling.specs.declared.component.Component.{Component}
use Rattle.params.specs.declared.LayoutParams.{LayoutParams}
use Rattle.rulings.specs.rules.Rulings.{cut_horizontal, cut_vertical, after_cut, run_min, thick_max}
use Rattle.sorting.specs.rules.Units.{unit_of, unit_value}
use Rattle.sorting.specs.rules.Kinds.{kind_of, kind_at, is_rule, is_graphic}
use Rattle.sorting.specs.rules.Sorted.{sorted, kind_counts, sum_of_kinds}
use Rattle.sorting.proofs.LabelFacts.{label-in, label-none}
use Rattle.memory.proofs.CountLaws.{occurs-by-place}
use Rattle.extents.proofs.MaskLaws.{ink-count}
use Rattle.rulings.proofs.RulingMasks.{horizontal-blank, vertical-blank, after_cut-ink}

-- a dot's kind goes with its ink: blank and 0, or ink and one of 1 to 5
pub data KindOfDot : Bool → ℕ → Type 0 where
  blank : KindOfDot false 0
  ink : {k : ℕ} → 0 < k → k ≤ 5 → KindOfDot true k

kind-range : (p : LayoutParams) (unit : Float) (w h : ℕ) (c : Component) → (0 < kind_of p unit w h c) × (kind_of p unit w h c ≤ 5)
kind-range p unit w h c =
    let a = width (box_of c) in
    let b = height (box_of c) in
    go (is_rule p unit a b || is_rule p unit b a) (is_graphic p unit w h a b) (ltb c.area p.glyph_min_area)
  where
    go : (a b c : Bool) → (0 < cond a 2 (cond b 3 (cond c 5 4))) × (cond a 2 (cond b 3 (cond c 5 4)) ≤ 5)
    go true b c = (omega arith, omega arith)
    go false true c = (omega arith, omega arith)
    go false false true = (omega arith, omega arith)
    go false false false = (omega arith, omega arith)

kinds-range : (f : Component → ℕ) (cs : List Component) → ((c : Component) → (0 < f c) × (f c ≤ 5)) → (k : ℕ) → k < length cs → (0 < get_or (map f cs) k 0) × (get_or (map f cs) k 0 ≤ 5)
kinds-range f [] h k l = absurd (not-suc-le-zero l)
kinds-range f (c ∷ cs) h zero l = h c
kinds-range f (c ∷ cs) h (suc k) l = kinds-range f cs h k (omega arith)

-- the five counts of n dots
five : (ℕ → ℕ) → ℕ → ℕ
five g n = count_if (λ i. eqb (g i) 1) n + count_if (λ i. eqb (g i) 2) n + count_if (λ i. eqb (g i) 3) n + count_if (λ i. eqb (g i) 4) n + count_if (λ i. eqb (g i) 5) n

one-of-five : (b : Bool) (k : ℕ) → KindOfDot b k → cond (eqb k 1) 1 0 + (cond (eqb k 2) 1 0 + (cond (eqb k 3) 1 0 + (cond (eqb k 4) 1 0 + cond (eqb k 5) 1 0))) ≡ cond b 1 0
one-of-five false (suc _) x3 = elim x3 [ ]
one-of-five false zero blank = refl
one-of-five true zero (ink a c) = absurd (not-suc-le-zero a)
one-of-five true (suc zero) (ink a c) = refl
one-of-five true (suc (suc zero)) (ink a c) = refl
one-of-five true (suc (suc (suc zero))) (ink a c) = refl
one-of-five true (suc (suc (suc (suc zero)))) (ink a c) = refl
one-of-five true (suc (suc (suc (suc (suc zero))))) (ink a c) = refl
one-of-five true (suc (suc (suc (suc (suc (suc k)))))) (ink a c) = absurd (omega arith)

five-count : (g : ℕ → ℕ) (p : ℕ → Bool) (n : ℕ) → ((i : ℕ) → i < n → KindOfDot (p i) (g i)) → five g n ≡ count_if p n
unfolding five count_if
five-count g p zero h = refl
five-count g p (suc n) h =
    let a = five-count g p n (λ i l. h i (omega arith)) in
    let b = one-of-five (p n) (g n) (h n (le_refl (suc n))) in
    omega (arith, a, b)

pub length-plane : (p : LayoutParams) (w h : ℕ) (m : List ℕ) → length (sorted p w h m).plane ≡ w * h
unfolding sorted
length-plane p w h m = length-table _ _

module _ (p : LayoutParams) (w h : ℕ) (m : List ℕ) (wide : 0 < w) where
  unit : Float
  unit = unit_value (unit_of p w h (labelling w h m).components)

  a : List ℕ
  a = cut_horizontal (run_min p unit) (thick_max p unit) w h m

  b : List ℕ
  b = cut_vertical (run_min p unit) (thick_max p unit) w h m

  rest : List ℕ
  rest = after_cut w h a b m

  first_dots : List ℕ
  first_dots = firsts (touches w rest) (w * h)

  cs : List Component
  cs = (labelling w h rest).components

  length-cs : length cs ≡ count_if (is_first rest first_dots) (w * h)
  unfolding cs first_dots labelling
  length-cs = length-table _ _

  kind : Component → ℕ
  kind = kind_of p (unit_value (unit_of p w h cs)) w h

  -- each dot has one kind: a blank dot 0, an ink dot cut, rule, graphic, glyph or speck; a dot in both cut masks is cut, once
  pub kind-of-dot : (i : ℕ) → i < w * h → KindOfDot (is_ink m i) (get_or (sorted p w h m).plane i 0)
  unfolding sorted a b rest unit cs kind first_dots labelling kind_at
  kind-of-dot i l = subst (KindOfDot (is_ink m i)) (sym (get_or-table _ (w * h) i 0 l)) (rw label (dot (is_ink m i) refl (is_ink a i || is_ink b i) refl))
    where
      label : get_or (table (label_at rest first_dots) (w * h)) i 0 ≡ label_at rest first_dots i
      label = get_or-table _ (w * h) i 0 l

      dot : (t : Bool) → is_ink m i ≡ t → (c : Bool) → (is_ink a i || is_ink b i) ≡ c → KindOfDot t (cond c 1 (get_or (0 ∷ map kind cs) (label_at rest first_dots i) 0))
      dot false e true f = absurd (true≢false (sym f ∙ rw (horizontal-blank (run_min p unit) (thick_max p unit) w h m wide i l e, vertical-blank (run_min p unit) (thick_max p unit) w h m wide i l e)))
      dot false e false f = rw (label-none rest first_dots i (after_cut-ink w h a b m i wide l ∙ rw e)) blank
      dot true e true f = ink {k = 1} (omega arith) (omega arith)
      dot true e false f =
          let k : is_ink rest i ≡ true = after_cut-ink w h a b m i wide l ∙ rw (e, f) in
          let g = label-in w (w * h) rest i l k in
          from (label_at rest first_dots i) g.0 (subst (λ n. label_at rest first_dots i ≤ n) (sym length-cs) g.1)
        where
          from : (k : ℕ) → 0 < k → k ≤ length cs → KindOfDot true (get_or (0 ∷ map kind cs) k 0)
          from zero x y = absurd (not-suc-le-zero x)
          from (suc k) x y = let r = kinds-range kind cs (kind-range p (unit_value (unit_of p w h cs)) w h) k y in ink r.0 r.1

  -- cut, rule, graphic, glyph and speck add up to the ink
  pub kinds-add-up : length m ≡ w * h → ((i : ℕ) → get_or m i 0 ≤ 1) → sum_of_kinds (kind_counts (sorted p w h m).plane) ≡ occurs 1 m
  unfolding five kind_counts
  kinds-add-up e bits =
      (λ i. by 1 i + by 2 i + by 3 i + by 4 i + by 5 i)
      ∙ (five-count (λ i. get_or (sorted p w h m).plane i 0) (is_ink m) (w * h) kind-of-dot
      ∙ ink-count w h m e bits)
    where
      by : (k : ℕ) → occurs k (sorted p w h m).plane ≡ count_if (λ i. eqb (get_or (sorted p w h m).plane i 0) k) (w * h)
      by k = occurs-by-place k (sorted p w h m).plane ∙ ap (count_if (λ i. eqb (get_or (sorted p w h m).plane i 0) k)) (length-plane p w h m)

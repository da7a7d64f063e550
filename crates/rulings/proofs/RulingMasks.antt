-- The least run of a thin ruling; the cut masks and the ink after the cut, dot by dot.
use mathlib.Core.Path.{◌≡◌, refl, sym, ap, ◌∙◌}
use mathlib.Core.Bool.{Bool, true, false, cond, ◌&&◌, ◌||◌, not}
use mathlib.Core.List.{List}
use Prim.Native.Nat.{ℕ, zero, suc, ◌*◌, ◌/◌, ◌%◌, ◌≤◌, ◌<◌}
use native.Mathlib.Omega.{arith}
use lib.Dec.{ltb}
use lib.Ieee.{Float}
use lib.ListN.{get_or, length}
use lib.Seq.{ext_get_or}
use Rattle.memory.specs.rules.Masks.{is_ink}
use Rattle.params.specs.declared.LayoutParams.{LayoutParams}
use Rattle.memory.proofs.TableLaws.{length-table, get_or-table}
use Rattle.extents.specs.rules.Extents.{Plane, ink_at, mask_of}
use Rattle.extents.proofs.MaskLaws.{is_ink-mask_of, ink_at-dot}
use Rattle.rulings.specs.rules.Rulings.{run_min, transposed, in_thin_ruling, cut_horizontal, cut_vertical, after_cut}
use Rattle.rulings.specs.stages.Marks.{Blank}

pub two-least : (p : LayoutParams) (u : Float) → 2 ≤ run_min p u
unfolding run_min
two-least p u = omega arith

in_thin_ruling-off : (p : Plane) (w h run_min thick_max x y : ℕ) → p x y ≡ false → in_thin_ruling p w h run_min thick_max x y ≡ false
unfolding in_thin_ruling
in_thin_ruling-off p w h run_min thick_max x y e = rw e

module _ (run_min thick_max w h : ℕ) (m : List ℕ) (wide : 0 < w) where
  -- what is cut is ink
  pub horizontal-blank : (i : ℕ) → i < w * h → is_ink m i ≡ false → is_ink (cut_horizontal run_min thick_max w h m) i ≡ false
  unfolding cut_horizontal
  horizontal-blank i l e =
      is_ink-mask_of w h _ i l ∙ in_thin_ruling-off (ink_at w m) w h run_min thick_max (i % w) (i / w) (ink_at-dot w m i wide ∙ e)

  pub vertical-blank : (i : ℕ) → i < w * h → is_ink m i ≡ false → is_ink (cut_vertical run_min thick_max w h m) i ≡ false
  unfolding cut_vertical
  vertical-blank i l e =
      is_ink-mask_of w h _ i l ∙ in_thin_ruling-off (transposed (ink_at w m)) h w run_min thick_max (i / w) (i % w) (ink_at-dot w m i wide ∙ e)

-- what is left after the cut is ink in neither cut mask
pub after_cut-ink : (w h : ℕ) (a b m : List ℕ) (i : ℕ) → 0 < w → i < w * h → is_ink (after_cut w h a b m) i ≡ (is_ink m i && not (is_ink a i || is_ink b i))
unfolding after_cut
after_cut-ink w h a b m i wide l =
    is_ink-mask_of w h _ i l ∙ (λ t. ink_at-dot w m i wide t && not (ink_at-dot w a i wide t || ink_at-dot w b i wide t))

and-true : (t : Bool) → (t && true) ≡ t
and-true true = refl
and-true false = refl

-- a byte of 0 or 1
byte-is : (v : ℕ) → v ≤ 1 → cond (ltb 0 v) 1 0 ≡ v
byte-is zero l = refl
byte-is (suc zero) l = refl
byte-is (suc (suc v)) l = absurd (omega arith)

-- the ink less nothing is the ink
pub after_cut-nothing : (w h : ℕ) (a b m : List ℕ) → 0 < w → length m ≡ w * h → ((i : ℕ) → get_or m i 0 ≤ 1) → Blank a (w * h) → Blank b (w * h) → after_cut w h a b m ≡ m
unfolding after_cut mask_of is_ink
after_cut-nothing w h a b m wide whole ones none-a none-b =
    let size : length (after_cut w h a b m) ≡ w * h = length-table _ (w * h) in
    ext_get_or 0 (after_cut w h a b m) m (size ∙ sym whole)
    (λ i l. let k : i < w * h = omega (arith, size) in
    get_or-table _ (w * h) i 0 k
    ∙ (ap (λ (t : Bool). cond t 1 0) ((λ t. ink_at-dot w m i wide t && not ((ink_at-dot w a i wide ∙ none-a i k) t || (ink_at-dot w b i wide ∙ none-b i k) t)) ∙ and-true (is_ink m i)) ∙ byte-is (get_or m i 0) (ones i)))

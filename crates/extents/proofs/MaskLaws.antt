-- The mask of a test on the dots of a plane, and its ink.
use mathlib.Core.Path.{◌≡◌, refl, sym, ap, ◌∙◌}
use mathlib.Core.Bool.{Bool, true, false, cond}
use mathlib.Core.List.{List}
use Prim.Native.Nat.{ℕ, zero, suc, ◌+◌, ◌*◌, ◌/◌, ◌%◌, ◌≤◌, ◌<◌}
use native.Mathlib.Nat.{mod-lt, div-add-mod'}
use native.Mathlib.Omega.{arith}
use borrow.Author.Tests.{lt-ltb}
use lib.ListN.{get_or, length}
use lib.Dec.{eqb, ltb}
use Rattle.memory.specs.rules.Lists.{count_if, occurs}
use Rattle.memory.proofs.CountLaws.{count-ext, occurs-by-place}
use Rattle.memory.proofs.TableLaws.{get_or-table}
use Rattle.memory.proofs.PlaneLaws.{dot-column, dot-row, dot-inside}
use Rattle.memory.specs.rules.Masks.{is_ink}
use Rattle.extents.specs.rules.Extents.{Plane, ink_at, mask_of}

one_bit : (b : Bool) → ltb 0 (cond b 1 0) ≡ b
one_bit true = refl
one_bit false = refl

-- a dot of the mask of a test is ink just where the test passes
pub is_ink-mask_of : (w h : ℕ) (p : Plane) (i : ℕ) → i < w * h → is_ink (mask_of w h p) i ≡ p (i % w) (i / w)
unfolding mask_of is_ink
is_ink-mask_of w h p i l = ap (ltb 0) (get_or-table _ (w * h) i 0 l) ∙ one_bit (p (i % w) (i / w))

-- dot i is the dot in its column and row
pub ink_at-dot : (w : ℕ) (m : List ℕ) (i : ℕ) → 0 < w → ink_at w m (i % w) (i / w) ≡ is_ink m i
unfolding ink_at is_ink
ink_at-dot w m i l = rw (lt-ltb (i % w) w (mod-lt i l)) (ap (λ k. ltb 0 (get_or m k 0)) (div-add-mod' i w))

-- how many ink dots a mask of 0 and 1 has
pub ink-count : (w h : ℕ) (m : List ℕ) → length m ≡ w * h → ((i : ℕ) → get_or m i 0 ≤ 1) → count_if (is_ink m) (w * h) ≡ occurs 1 m
ink-count w h m e bits =
    ap (count_if (is_ink m)) (sym e) ∙ (count-ext (is_ink m) (λ i. eqb (get_or m i 0) 1) (length m) (λ i l. unfold is_ink in one (get_or m i 0) (bits i)) ∙ sym (occurs-by-place 1 m))
  where
    one : (v : ℕ) → v ≤ 1 → ltb 0 v ≡ eqb v 1
    one zero l = refl
    one (suc zero) l = refl
    one (suc (suc v)) l = absurd (omega arith)

-- what a plane's mask holds at a place
pub mask_at : (w h : ℕ) (p : Plane) (x y : ℕ) → x < w → y < h → get_or (mask_of w h p) (y * w + x) 0 ≡ cond (p x y) 1 0
unfolding mask_of
mask_at w h p x y lx ly =
    get_or-table (λ i. cond (p (i % w) (i / w)) 1 0) (w * h) (y * w + x) 0 (dot-inside w h x y lx ly)
    ∙ (λ i. cond (p (dot-column w x y lx i) (dot-row w x y lx i)) 1 0)

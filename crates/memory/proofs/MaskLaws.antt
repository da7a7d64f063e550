-- The bytes of a mask: found by their greatest, and each at most 1. The sides of a mask that are not refused.
use mathlib.Core.Path.{◌≡◌, sym, ap, ◌∙◌}
use mathlib.Core.Bool.{true, not, ◌&&◌}
use mathlib.Core.List.{List, [], ◌∷◌}
use Prim.Native.Nat.{ℕ, max, ◌*◌, ◌≤◌, ◌<◌}
use native.Mathlib.Nat.{le_trans}
use borrow.Author.Tests.{leb-true, le-leb, ltb-true, ltb-false, not-false}
use lib.Dec.{leb, ltb}
use native.Mathlib.Omega.{arith}
use Rattle.std.specs.List.{fold}
use lib.ListN.{get_or, length}
use Rattle.memory.specs.rules.Lists.{table, greatest}
use Rattle.memory.specs.rules.Limits.{max_mask_side, max_mask_dots}
use Rattle.memory.specs.rules.Masks.{is_mask, is_mask_side, sides_refusal}
use Rattle.memory.proofs.BoolLaws.{and_left, and_right}
use Rattle.memory.proofs.RefusalLaws.{Passed, refusal-passed, Passes, passes_none, passes-if}
use Rattle.memory.proofs.CountLaws.{list-is-table}
use Rattle.memory.proofs.GreatestLaws.{greatest-bounds, greatest-at-most}

-- the greatest byte, from a on
fold_max : (a : ℕ) (m : List ℕ) → fold (λ most byte. max most byte) a m ≡ max a (greatest m)
unfolding greatest
fold_max a [] = omega arith
fold_max a (b ∷ m) = fold_max (max a b) m ∙ omega arith

-- the greatest of the first i bytes, and these are all
pub mask-by-table : (m : List ℕ) (most i : ℕ) → i ≡ length m → most ≡ greatest (table (λ k. get_or m k 0) i) → leb most 1 ≡ is_mask m
unfolding is_mask
mask-by-table m most i e f = ap (λ z. leb z 1) (f ∙ (ap (λ n. greatest (table (λ k. get_or m k 0) n)) e ∙ ap greatest (sym (list-is-table m))))

-- the greatest of all bytes is at most 1
pub mask-by-greatest : (m : List ℕ) (most : ℕ) → most ≡ fold (λ most byte. max most byte) 0 m → leb most 1 ≡ is_mask m
unfolding is_mask
mask-by-greatest m most e = ap (λ z. leb z 1) (e ∙ (fold_max 0 m ∙ omega arith))

pub mask-ones : (m : List ℕ) → is_mask m ≡ true → (i : ℕ) → get_or m i 0 ≤ 1
unfolding is_mask
mask-ones m e i = le_trans (greatest-bounds m i) (leb-true (greatest m) 1 e)

pub ones-mask : (m : List ℕ) → ((i : ℕ) → get_or m i 0 ≤ 1) → is_mask m ≡ true
unfolding is_mask
ones-mask m h = le-leb (greatest m) 1 (greatest-at-most m 1 (λ i k. h i))

-- ---- the sides
pub sides-pass : (w h : ℕ) → Passes (sides_refusal w h)
unfolding sides_refusal
sides-pass w h = passes-if (not (is_mask_side w && is_mask_side h)) 0 (passes-if (ltb max_mask_dots (w * h)) 0 passes_none)

-- the sides are within their limits, and the later tests give 0
pub record SidesPassed (w h rest : ℕ) : Type 0 where
  pub wide : 0 < w
  pub narrow : w ≤ max_mask_side
  pub high : 0 < h
  pub low : h ≤ max_mask_side
  pub few : w * h ≤ max_mask_dots
  pub later : rest ≡ 0

pub sides-passed : (w h rest : ℕ) → sides_refusal w h rest ≡ 0 → SidesPassed w h rest
unfolding sides_refusal
sides-passed w h rest e =
    let a : Passed (not (is_mask_side w && is_mask_side h)) _ = refusal-passed (not (is_mask_side w && is_mask_side h)) 0 _ e in
    let b : Passed (ltb max_mask_dots (w * h)) rest = refusal-passed (ltb max_mask_dots (w * h)) 0 rest a.later in
    let sides = not-false (is_mask_side w && is_mask_side h) a.passed in
    let sw = and_left (is_mask_side w) (is_mask_side h) sides in
    let sh = and_right (is_mask_side w) (is_mask_side h) sides in
    record {
      wide = ltb-true 0 w (and_left (ltb 0 w) (leb w max_mask_side) sw);
      narrow = leb-true w max_mask_side (and_right (ltb 0 w) (leb w max_mask_side) sw);
      high = ltb-true 0 h (and_left (ltb 0 h) (leb h max_mask_side) sh);
      low = leb-true h max_mask_side (and_right (ltb 0 h) (leb h max_mask_side) sh);
      few = ltb-false max_mask_dots (w * h) b.passed;
      later = b.later;
    }

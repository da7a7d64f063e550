-- The show program's input: where its rows stand, and what a well made one is.
use mathlib.Core.Path.{◌≡◌}
use mathlib.Core.Bool.{true, false, ◌&&◌}
use mathlib.Core.List.{List}
use Prim.Native.Nat.{ℕ, zero, suc, ◌+◌, ◌*◌, ◌/◌, ◌%◌, ◌≤◌, ◌<◌}
use native.Mathlib.Nat.{mul-le-mul, mul-le-mul_right, suc-mul, mul_comm, div-lt_iff_lt-mul, mod-lt}
use native.Mathlib.Omega.{arith}
use borrow.Author.Tests.{leb-true, eqb-true}
use lib.Dec.{eqb, leb}
use lib.ListN.{length, get_or}
use Rattle.memory.specs.rules.Words.{over}
use Rattle.memory.proofs.BoolLaws.{and_left, and_right}
use Rattle.judging.specs.rules.Spoiled.{every}
use Rattle.showing.specs.rules.Inputs.{digits_at, width_of, height_of, rows_at, row_digits, row_at, row_good, head_good, sides_good, well_made, max_shown_side, skew_of, slope_of, dots_in, page_of, parsed, mask_of}
use Rattle.showing.specs.stages.Rooms.{longest_input}
use Rattle.std.specs.Prelude.{Some, None}

-- a row before the last one ends where the rows do, or before
pub row_inside : (w h y : ℕ) → y < h → row_at w y + row_digits w < row_at w h
row_inside w h y l =
    let n = row_digits w in
    let a : suc y * (n + 1) ≤ h * (n + 1) = mul-le-mul_right (n + 1) l in
    let b : suc y * (n + 1) ≡ y * (n + 1) + (n + 1) = suc-mul y (n + 1) in
    omega arith

-- a dot of the page has a row and a column
pub wide_enough : (w h i : ℕ) → i < w * h → 0 < w
wide_enough zero h i l = absurd (let e : 0 * h ≡ 0 = omega arith in omega arith)
wide_enough (suc w) h i l = omega arith

pub row_of : (w h i : ℕ) → i < w * h → i / w < h
row_of w h i l = (div-lt_iff_lt-mul {k = w} {x = i} {y = h} (wide_enough w h i l)).1 (let c = mul_comm w h in omega arith)

pub column-of : (w h i : ℕ) → i < w * h → i % w < w
column-of w h i l = mod-lt i (wide_enough w h i l)

-- what a well made input is
pub record Made (s : List ℕ) : Type 0 where
  pub head : head_good s ≡ true
  pub narrow : width_of s ≤ max_shown_side
  pub low : height_of s ≤ max_shown_side
  pub bytes : length s ≡ row_at (width_of s) (height_of s)
  pub rows : every (row_good s (width_of s)) (height_of s) ≡ true

pub head-long : (s : List ℕ) → head_good s ≡ true → rows_at ≤ length s
unfolding head_good
head-long s e =
    leb-true rows_at (length s) (and_left (leb rows_at (length s)) (digits_at s 0 40) (and_left (leb rows_at (length s) && digits_at s 0 40) (eqb (get_or s 40 0) 10) e))

pub sides-good : (s : List ℕ) → sides_good s ≡ true → (width_of s ≤ 16) × (height_of s ≤ 16) × (length s ≡ row_at (width_of s) (height_of s))
unfolding sides_good
sides-good s e =
    let a = leb (width_of s) 16 in
    let b = leb (height_of s) 16 in
    let c = eqb (length s) (row_at (width_of s) (height_of s)) in
    let f : (a && b) ≡ true = and_left (a && b) c e in
    (leb-true (width_of s) 16 (and_left a b f), leb-true (height_of s) 16 (and_right a b f), eqb-true (length s) (row_at (width_of s) (height_of s)) (and_right (a && b) c e))

pub made : (s : List ℕ) → well_made s ≡ true → Made s
unfolding well_made
made s e =
    let a = head_good s in
    let b = sides_good s in
    let c = every (row_good s (width_of s)) (height_of s) in
    let f : (a && b) ≡ true = and_left (a && b) c e in
    let g = sides-good s (and_right a b f) in
    record { head = and_left a b f; narrow = g.0; low = g.1; bytes = g.2; rows = and_right (a && b) c e }

pub made-long : (s : List ℕ) → well_made s ≡ true → rows_at ≤ length s
made-long s e = head-long s (made s e).head

-- no well made input is longer
pub no_longer : (s : List ℕ) → well_made s ≡ true → length s ≤ longest_input
no_longer s e =
    let m = made s e in
    let a : height_of s * (row_digits (width_of s) + 1) ≤ 16 * 5 = mul-le-mul {n₁ = height_of s} {m₁ = row_digits (width_of s) + 1} {n₂ = 16} {m₂ = 5} m.low (let n = m.narrow in omega arith) in
    let n = m.narrow in
    let b = m.bytes in
    omega arith

-- four digits a side: the bytes of the rows fit
pub rows_fit : (w h : ℕ) → w < 65536 → h < 65536 → h * (row_digits w + 1) ≤ 65536 * 16386
rows_fit w h a b = mul-le-mul {n₁ = h} {m₁ = row_digits w + 1} {n₂ = 65536} {m₂ = 16386} (omega arith) (omega arith)

-- dots of a small page are few
pub dots-few : (w h : ℕ) → w ≤ 16 → h ≤ 16 → w * h ≤ 256
dots-few w h a b = mul-le-mul {n₁ = w} {m₁ = h} {n₂ = 16} {m₂ = 16} a b

-- a test fails
pub head-bad : (s : List ℕ) → head_good s ≡ false → well_made s ≡ false
unfolding well_made
head-bad s e = rw e

pub sides-bad : (s : List ℕ) → head_good s ≡ true → sides_good s ≡ false → well_made s ≡ false
unfolding well_made
sides-bad s e f = rw (e, f)

pub rows_tell : (s : List ℕ) → head_good s ≡ true → sides_good s ≡ true → every (row_good s (width_of s)) (height_of s) ≡ well_made s
unfolding well_made
rows_tell s e f = rw (e, f)

-- what the input says
pub parsed-page : (s : List ℕ) → well_made s ≡ true → Some (page_of (width_of s) (height_of s) (skew_of s) (slope_of s)) ≡ parsed s
unfolding parsed
parsed-page s e = rw e

pub parsed-none : (s : List ℕ) → well_made s ≡ false → None ≡ parsed s
unfolding parsed
parsed-none s e = rw e

pub mask-page : (s m : List ℕ) → well_made s ≡ true → over (dots_in s (width_of s) (height_of s)) m ≡ over (mask_of s) m
unfolding mask_of
mask-page s m e = rw e

pub mask-none : (s m : List ℕ) → well_made s ≡ false → m ≡ over (mask_of s) m
unfolding mask_of
mask-none s m e = rw e

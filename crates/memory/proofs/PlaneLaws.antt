-- A plane of dots w wide, row by row: dot (x, y) is number y * w + x.
use mathlib.Core.Path.{◌≡◌, ◌∙◌}
use Prim.Native.Nat.{ℕ, suc, ◌+◌, ◌*◌, ◌/◌, ◌%◌, ◌^◌, ◌≤◌, ◌<◌}
use native.Mathlib.Nat.{mul-add-div_right, mul-add-mod_self_right, mod-eq_of_lt, div-eq_of_lt, mul_comm, mul-le-mul_right, suc-mul, lt_of_le_of_lt, mul-le-mul, le-pred_of_lt}
use native.Mathlib.Omega.{arith}
use lib.Dec.{lit<}

pub dot-column : (w x y : ℕ) → x < w → (y * w + x) % w ≡ x
dot-column w x y l = mul-add-mod_self_right y w x ∙ mod-eq_of_lt l

pub dot-row : (w x y : ℕ) → x < w → (y * w + x) / w ≡ y
dot-row w x y l = mul-add-div_right {m = w} (omega arith) y x ∙ (let e : x / w ≡ 0 = div-eq_of_lt l in omega arith)

-- a row ends where the next one begins, or where the plane ends
pub row-end : (w h y : ℕ) → y < h → y * w + w ≤ w * h
row-end w h y l =
    let a : suc y * w ≤ h * w = mul-le-mul_right w l in
    let b : suc y * w ≡ y * w + w = suc-mul y w in
    let c : h * w ≡ w * h = mul_comm h w in
    omega arith

pub dot-inside : (w h x y : ℕ) → x < w → y < h → y * w + x < w * h
dot-inside w h x y lx ly = let e = row-end w h y ly in omega arith

-- the product of two numbers of 32 bits
pub product-fits : (a b : ℕ) → a < 2 ^ 32 → b < 2 ^ 32 → a * b < 2 ^ 64
product-fits a b ha hb = lt_of_le_of_lt (mul-le-mul (le-pred_of_lt ha) (le-pred_of_lt hb)) (lit< tt)

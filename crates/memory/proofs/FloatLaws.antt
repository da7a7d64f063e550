-- A float written into two words is read back as it was.
use mathlib.Core.Path.{◌≡◌, sym, ap, ◌∙◌, subst}
use mathlib.Core.List.{List}
use Prim.Native.Nat.{ℕ, ◌+◌, ◌*◌, ◌/◌, ◌%◌, ◌^◌, ◌<◌}
use native.Mathlib.Nat.{ne_of_lt, div-add-mod', lt_of_le_of_lt, le-add_right}
use native.Mathlib.Omega.{arith}
use lib.Dec.{T}
use lib.ListN.{get_or, set, length, length-set}
use lib.Seq.{get_or-set_same, get_or-set_other}
use lib.Ieee.{Float, binary64, to_bits, of_bits, fits}
use lib.Ieee.Bits.{of_bits-to_bits}
use Rattle.memory.specs.rules.Floats.{with_float, float_at}

next : (at : ℕ) → at < at + 1
next at = omega arith

pub float-read-back : (l : List ℕ) (at : ℕ) (x : Float) → T (fits binary64 x) → at + 1 < length l → float_at (with_float l at x) at ≡ x
float-read-back l at x F h =
    let low = to_bits binary64 x % 2 ^ 32 in
    let high = to_bits binary64 x / 2 ^ 32 in
    let one = set l at low in
    let a : get_or (set one (at + 1) high) (at + 1) 0 ≡ high = get_or-set_same one (at + 1) high 0 (subst (λ (n : ℕ). at + 1 < n) (sym (length-set l at low)) h) in
    let b : get_or (set one (at + 1) high) at 0 ≡ low = get_or-set_other one (at + 1) at high 0 (ne_of_lt (next at)) ∙ get_or-set_same l at low 0 (lt_of_le_of_lt (le-add_right at 1) h) in
    (λ i. of_bits binary64 (a i * 2 ^ 32 + b i)) ∙ ap (of_bits binary64) (div-add-mod' (to_bits binary64 x) (2 ^ 32)) ∙ of_bits-to_bits binary64 x F

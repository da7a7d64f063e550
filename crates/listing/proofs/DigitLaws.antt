-- Digits of a number: the two of a pair, and a number written from its last digits on.
use mathlib.Core.Path.{◌≡◌, refl, sym, ap, ◌∙◌}
use mathlib.Core.List.{List, [], ◌∷◌, ◌++◌, append_assoc, append-nil}
use Prim.Native.Nat.{ℕ, zero, suc, ◌+◌, ◌-◌, ◌*◌, ◌/◌, ◌%◌, ◌^◌, ◌≤◌, ◌<◌}
use native.Mathlib.Nat.{div-div-eq-div-mul, pow-suc}
use native.Mathlib.Omega.{arith}
use lib.ListN.{length, get_or, take, drop, set, take-append-drop}
use lib.Seq.{take-suc, set_at, length-take-le, drop-drop}
use Rattle.memory.specs.rules.Words.{put_at}
use Rattle.listing.specs.rules.Digits.{digit_of, hex}

pub length-hex : (n v : ℕ) → length (hex n v) ≡ n
unfolding hex
length-hex zero v = refl
length-hex (suc n) v = ap suc (length-hex n v)

-- what is left of a number after k digits, and one more
pub next-quotient : (v k : ℕ) → v / 16 ^ suc k ≡ v / 16 ^ k / 16
next-quotient v k = ap (λ z. v / z) (pow-suc 16 k) ∙ sym (div-div-eq-div-mul v (16 ^ k) 16)

pub two-quotients : (v q k : ℕ) → q ≡ v / 16 ^ (2 * k) → q / 256 ≡ v / 16 ^ (2 * (k + 1))
two-quotients v q k e =
    let a = next-quotient v (2 * k) in
    let b = next-quotient v (suc (2 * k)) in
    let s : 2 * (k + 1) ≡ suc (suc (2 * k)) = omega arith in
    rw s (let r : q / 256 ≡ v / 16 ^ suc (suc (2 * k)) = omega arith in r)

-- one more byte in front of those that are written
back : (s out t r : List ℕ) (p d : ℕ) → p < length s → out ≡ take (suc p) s ++ t ++ r → set out p d ≡ take p s ++ (d ∷ t) ++ r
back s out t r p d h e =
    ap (λ z. set z p d) (e ∙ shape)
    ∙ (set_at (take p s) (get_or s p 0) (t ++ r) d p (length-take-le p s (omega arith)) ∙ sym (append_assoc (take p s) (d ∷ t) r))
  where
    shape : take (suc p) s ++ t ++ r ≡ take p s ++ (get_or s p 0 ∷ (t ++ r))
    shape =
        ap (λ z. z ++ t ++ r) (take-suc s p 0 h)
        ∙ (append_assoc (take p s ++ (get_or s p 0 ∷ [])) t r ∙ append_assoc (take p s) (get_or s p 0 ∷ []) (t ++ r))

-- the last `done` digits of value stand at their places
abbrev pub Written : List ℕ → ℕ → ℕ → ℕ → ℕ → List ℕ → Type 0
Written s at digits done value out = out ≡ take (at + (digits - done)) s ++ hex done value ++ drop (at + digits) s

one-digit : (s out : List ℕ) (at digits done value p d : ℕ) → at + digits ≤ length s → done < digits → suc p ≡ at + (digits - done)
    → d ≡ digit_of (value / 16 ^ done % 16) → Written s at digits done value out → Written s at digits (suc done) value (set out p d)
unfolding hex
one-digit s out at digits done value p d room more place is w =
    let k : p ≡ at + (digits - suc done) = omega arith in
    back s out (hex done value) (drop (at + digits) s) p d (omega arith) (w ∙ ap (λ z. take z s ++ hex done value ++ drop (at + digits) s) (sym place))
    ∙ (λ i. take (k i) s ++ (is i ∷ hex done value) ++ drop (at + digits) s)

-- a pair is stored
pub pair_step : (s out : List ℕ) (at digits k v value high low : ℕ) → at + digits ≤ length s → k < digits / 2 → v ≡ value / 16 ^ (2 * k)
    → high ≡ digit_of (v % 256 / 16) → low ≡ digit_of (v % 256 % 16) → Written s at digits (2 * k) value out
    → Written s at digits (2 * (k + 1)) value (set (set out (at + digits - 2 * k - 1) low) (at + digits - 2 * k - 2) high)
pair_step s out at digits k v value high low room more q h l w =
    let done = 2 * k in
    let end = at + digits - done in
    let a = next-quotient value done in
    let n : 2 * (k + 1) ≡ suc (suc done) = omega arith in
    let low' : low ≡ digit_of (value / 16 ^ done % 16) = l ∙ ap digit_of (omega arith) in
    let high' : high ≡ digit_of (value / 16 ^ suc done % 16) = h ∙ ap digit_of (omega arith) in
    rw n
    (one-digit s (set out (end - 1) low) at digits (suc done) value (end - 2) high room (omega arith) (omega arith) high'
    (one-digit s out at digits done value (end - 1) low room (omega arith) (omega arith) low' w))

-- all digits stand there
pub hex-written : (s out : List ℕ) (at digits done value : ℕ) → done ≡ digits → Written s at digits done value out → out ≡ put_at at (hex digits value) s
hex-written s out at digits done value e w =
    let z : at + (digits - digits) ≡ at = omega arith in
    w
    ∙ (ap (λ n. take (at + (digits - n)) s ++ hex n value ++ drop (at + digits) s) e
    ∙ (ap (λ n. take n s ++ hex digits value ++ drop (at + digits) s) z
    ∙ (append_assoc (take at s) (hex digits value) (drop (at + digits) s)
    ∙ ap (λ r. take at s ++ (hex digits value ++ r)) (sym (ap (λ n. drop n (drop at s)) (length-hex digits value) ∙ drop-drop digits at s)))))

-- the first digit of an odd number of them
pub odd-digit : (s out : List ℕ) (at digits k v value d : ℕ) → at + digits ≤ length s → k ≡ digits / 2 → digits % 2 ≡ 1 → v ≡ value / 16 ^ (2 * k) → d ≡ digit_of (v % 16 % 16)
    → Written s at digits (2 * k) value out → set out at d ≡ put_at at (hex digits value) s
odd-digit s out at digits k v value d room half odd q e w =
    hex-written s (set out at d) at digits (suc (2 * k)) value (omega arith)
    (one-digit s out at digits (2 * k) value at d room (omega arith) (omega arith) (e ∙ ap digit_of (omega arith)) w)

pub none_written : (s : List ℕ) (at digits value : ℕ) → at + digits ≤ length s → Written s at digits 0 value s
unfolding hex
none_written s at digits value room =
    let z : digits - 0 ≡ digits = omega arith in
    sym (ap (λ n. take (at + n) s ++ [] ++ drop (at + digits) s) z ∙ (ap (λ t. t ++ drop (at + digits) s) (append-nil (take (at + digits) s)) ∙ whole))
  where
    whole : take (at + digits) s ++ drop (at + digits) s ≡ s
    whole = take-append-drop (at + digits) s

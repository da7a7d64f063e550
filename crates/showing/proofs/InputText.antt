-- A well made input is the text of the page that it says: so nothing else is taken for one, and no two pages have the same input.
use mathlib.Core.Path.{◌≡◌, refl, sym, ap, ◌∙◌, subst}
use mathlib.Core.Bool.{Bool, true, false, cond, ◌&&◌, ◌||◌}
use mathlib.Core.List.{List, [], ◌∷◌, ◌++◌}
use Prim.Native.Nat.{ℕ, zero, suc, ◌+◌, ◌-◌, ◌*◌, ◌/◌, ◌%◌, ◌^◌, ◌≤◌, ◌<◌}
use native.Mathlib.Nat.{le_refl, pow-suc, div-div-eq-div-mul, div-eq_of_lt, div-add-mod', suc-mul, mul_comm}
use native.Mathlib.Omega.{arith}
use borrow.Author.Tests.{leb-true, eqb-true, le-leb, lt-leb, lt-ltb, le-ltb}
use lib.Dec.{eqb, leb, ltb}
use lib.ListN.{length, get_or, take, drop, length-drop, take-append-drop}
use lib.Pow.{pow-add}
use lib.Seq.{take-suc, take-add, take_all, drop-drop, get_or-drop}
use Rattle.memory.specs.rules.Lists.{table}
use Rattle.memory.proofs.BoolLaws.{and_left, and_right}
use Rattle.memory.proofs.PlaneLaws.{dot-row, dot-column, dot-inside}
use Rattle.memory.proofs.TableLaws.{get_or-table}
use Rattle.listing.specs.rules.Digits.{digit_of, hex, joined, line_feed}
use Rattle.showing.specs.rules.Inputs.{is_digit, digit_value, digits_at, number_at, width_of, height_of, skew_of, slope_of, rows_at, row_digits, row_at, row_number, row_dot, row_good, head_good, well_made, dot_at, dots_in, mask_of, dots_number, row_text, page_text}
use Rattle.showing.proofs.ReadLaws.{power-more, every-at}
use Rattle.showing.proofs.InputLaws.{made, made-long, row_inside}

-- ---- digits
pub value-small : (b : ℕ) → digit_value b < 16
unfolding digit_value
value-small b = go (leb b 57)
  where
    go : (t : Bool) → cond t (b % 16) ((b - 55) % 16) < 16
    go true = omega arith
    go false = omega arith

-- a digit is the digit of its value
digit-back : (b : ℕ) → is_digit b ≡ true → digit_of (digit_value b) ≡ b
unfolding is_digit digit_value digit_of
digit-back b e = go (leb 48 b && leb b 57) refl
  where
    low : (48 ≤ b) → (b ≤ 57) → cond (ltb (cond (leb b 57) (b % 16) ((b - 55) % 16)) 10) (48 + cond (leb b 57) (b % 16) ((b - 55) % 16)) (55 + cond (leb b 57) (b % 16) ((b - 55) % 16)) ≡ b
    low l m = rw (le-leb b 57 m, lt-ltb (b % 16) 10 (omega arith)) (omega arith)

    high : (65 ≤ b) → (b ≤ 70) → cond (ltb (cond (leb b 57) (b % 16) ((b - 55) % 16)) 10) (48 + cond (leb b 57) (b % 16) ((b - 55) % 16)) (55 + cond (leb b 57) (b % 16) ((b - 55) % 16)) ≡ b
    high l m = rw (lt-leb b 57 (omega arith), le-ltb ((b - 55) % 16) 10 (omega arith)) (omega arith)

    go : (t : Bool) → (leb 48 b && leb b 57) ≡ t → digit_of (digit_value b) ≡ b
    go true f = low (leb-true 48 b (and_left (leb 48 b) (leb b 57) f)) (leb-true b 57 (and_right (leb 48 b) (leb b 57) f))
    go false f =
        let g : (leb 65 b && leb b 70) ≡ true = ap (λ t. t || (leb 65 b && leb b 70)) (sym f) ∙ e in
        high (leb-true 65 b (and_left (leb 65 b) (leb b 70) g)) (leb-true b 70 (and_right (leb 65 b) (leb b 70) g))

-- one more digit behind
pub hex-snoc : (n v : ℕ) → hex (suc n) v ≡ hex n (v / 16) ++ (digit_of (v % 16) ∷ [])
unfolding hex
hex-snoc zero v = let e : v / 16 ^ 0 % 16 ≡ v % 16 = omega arith in ap (λ d. digit_of d ∷ []) e
hex-snoc (suc n) v =
    let e : v / 16 ^ suc n ≡ v / 16 / 16 ^ n = ap (λ z. v / z) (pow-suc 16 n ∙ mul_comm (16 ^ n) 16) ∙ sym (div-div-eq-div-mul v 16 (16 ^ n)) in
    λ i. digit_of (e i % 16) ∷ hex-snoc n v i

pub number_small : (s : List ℕ) (at n : ℕ) → number_at s at n < 16 ^ n
unfolding number_at
number_small s at zero = omega arith
number_small s at (suc n) =
    let p = power-more n (number_at s at n) (digit_value (get_or s (at + n) 0)) (number_small s at n) (value-small (get_or s (at + n) 0)) in
    let e : n + 1 ≡ suc n = omega arith in
    subst (λ k. number_at s at n * 16 + digit_value (get_or s (at + n) 0) < 16 ^ k) e p

-- digits are the digits of their number
digits-text : (s : List ℕ) (at n : ℕ) → at + n ≤ length s → ((i : ℕ) → i < n → is_digit (get_or s (at + i) 0) ≡ true) → take n (drop at s) ≡ hex n (number_at s at n)
unfolding hex number_at
digits-text s at zero h d = refl
digits-text s at (suc n) h d =
    let b = get_or s (at + n) 0 in
    let v = value-small b in
    let l = length-drop at s in
    let q : (number_at s at n * 16 + digit_value b) / 16 ≡ number_at s at n = omega arith in
    let r : (number_at s at n * 16 + digit_value b) % 16 ≡ digit_value b = omega arith in
    take-suc (drop at s) n 0 (omega arith)
    ∙ ((λ i. digits-text s at n (omega arith) (λ j k. d j (omega arith)) i ++ ((get_or-drop at s n 0 ∙ sym (digit-back b (d n (le_refl (suc n))))) i ∷ []))
    ∙ ((λ i. hex n (sym q i) ++ (digit_of (sym r i) ∷ [])) ∙ sym (hex-snoc n (number_at s at n * 16 + digit_value b))))

-- digits and a byte behind them
line-text : (s : List ℕ) (at n : ℕ) → at + n < length s → ((i : ℕ) → i < n → is_digit (get_or s (at + i) 0) ≡ true) → get_or s (at + n) 0 ≡ line_feed
    → take (n + 1) (drop at s) ≡ hex n (number_at s at n) ++ (line_feed ∷ [])
line-text s at n h d f =
    let l = length-drop at s in
    let k : n + 1 ≡ suc n = omega arith in
    rw k (take-suc (drop at s) n 0 (omega arith) ∙ (λ i. digits-text s at n (omega arith) d i ++ ((get_or-drop at s n 0 ∙ f) i ∷ [])))

-- ---- a row
pub sixteen : (d : ℕ) → 16 ^ d ≡ 2 ^ (4 * d)
sixteen zero = refl
sixteen (suc d) = let e : 4 * suc d ≡ 4 * d + 4 = omega arith in pow-suc 16 d ∙ (ap (λ z. z * 16) (sixteen d) ∙ sym (ap (λ n. 2 ^ n) e ∙ pow-add 2 (4 * d) 4))

-- a number from its binary digits, the highest first
dots-read : (m : List ℕ) (at v k n : ℕ) → v < 2 ^ k → n ≤ k → ((x : ℕ) → x < n → get_or m (at + x) 0 ≡ v / 2 ^ (k - 1 - x) % 2) → dots_number m at n ≡ v / 2 ^ (k - n)
unfolding dots_number
dots-read m at v k zero h l d = let e : k - 0 ≡ k = omega arith in rw e (sym (div-eq_of_lt h))
dots-read m at v k (suc n) h l d =
    let q = v / 2 ^ (k - 1 - n) in
    let e : k - n ≡ suc (k - 1 - n) = omega arith in
    let f : k - suc n ≡ k - 1 - n = omega arith in
    let a : v / 2 ^ (k - n) ≡ q / 2 = ap (λ z. v / 2 ^ z) e ∙ (ap (λ z. v / z) (pow-suc 2 (k - 1 - n)) ∙ sym (div-div-eq-div-mul v (2 ^ (k - 1 - n)) 2)) in
    (λ i. (dots-read m at v k n h (omega arith) (λ x y. d x (omega arith)) ∙ a) i * 2 + d n (le_refl (suc n)) i)
    ∙ (rw f (let z : q / 2 * 2 + q % 2 ≡ q = omega arith in z))

-- what a well made row is
module _ (s : List ℕ) (w y : ℕ) (G : row_good s w y ≡ true) where
  row-tests : (digits_at s (row_at w y) (row_digits w) && eqb (get_or s (row_at w y + row_digits w) 0) line_feed) ≡ true
  unfolding row_good
  row-tests = and_left (digits_at s (row_at w y) (row_digits w) && eqb (get_or s (row_at w y + row_digits w) 0) line_feed) (eqb (row_number s w y % 2 ^ (4 * row_digits w - w)) 0) G

  row-digits : (i : ℕ) → i < row_digits w → is_digit (get_or s (row_at w y + i) 0) ≡ true
  row-digits i l =
      every-at (λ i. is_digit (get_or s (row_at w y + i) 0)) (row_digits w) i
      (and_left (digits_at s (row_at w y) (row_digits w)) (eqb (get_or s (row_at w y + row_digits w) 0) line_feed) row-tests) l

  row-feed : get_or s (row_at w y + row_digits w) 0 ≡ line_feed
  row-feed =
      eqb-true (get_or s (row_at w y + row_digits w) 0) line_feed
      (and_right (digits_at s (row_at w y) (row_digits w)) (eqb (get_or s (row_at w y + row_digits w) 0) line_feed) row-tests)

  row-pad : row_number s w y % 2 ^ (4 * row_digits w - w) ≡ 0
  unfolding row_good
  row-pad =
      eqb-true (row_number s w y % 2 ^ (4 * row_digits w - w)) 0
      (and_right (digits_at s (row_at w y) (row_digits w) && eqb (get_or s (row_at w y + row_digits w) 0) line_feed) (eqb (row_number s w y % 2 ^ (4 * row_digits w - w)) 0) G)

  -- its number from its dots
  row-value : (h : ℕ) → y < h → row_number s w y ≡ dots_number (dots_in s w h) (y * w) w * 2 ^ (4 * row_digits w - w)
  unfolding dots_in
  row-value h l =
      let v = row_number s w y in
      let k = 4 * row_digits w in
      let p = 2 ^ (k - w) in
      let small : v < 2 ^ k = subst (λ z. v < z) (sixteen (row_digits w)) (number_small s (row_at w y) (row_digits w)) in
      let dots : dots_number (table (dot_at s w) (w * h)) (y * w) w ≡ v / p =
      dots-read (table (dot_at s w) (w * h)) (y * w) v k w small (omega arith)
      (λ x b. get_or-table (dot_at s w) (w * h) (y * w + x) 0 (dot-inside w h x y b l) ∙ (λ i. row_dot w (row_number s w (dot-row w x y b i)) (dot-column w x y b i))) in
      sym (div-add-mod' v p) ∙ (let e = row-pad in let z : v / p * p + v % p ≡ v / p * p = omega arith in z ∙ ap (λ q. q * p) (sym dots))

-- the rows of a well made input
rows-text : (s : List ℕ) (w h : ℕ) → row_at w h ≤ length s → ((y : ℕ) → y < h → row_good s w y ≡ true) → (y : ℕ) → y ≤ h
    → joined (row_text w (dots_in s w h)) y ≡ take (y * (row_digits w + 1)) (drop rows_at s)
unfolding joined row_text
rows-text s w h room good zero l = let e : 0 * (row_digits w + 1) ≡ 0 = omega arith in rw e
rows-text s w h room good (suc y) l =
    let k = row_digits w + 1 in
    let e : suc y * k ≡ y * k + k = suc-mul y k in
    let inside = row_inside w h y l in
    let G = good y l in
    (λ i. rows-text s w h room good y (omega arith) i ++ one y l G inside i)
    ∙ sym (ap (λ n. take n (drop rows_at s)) e ∙ (take-add (y * k) k (drop rows_at s) ∙ ap (λ t. take (y * k) (drop rows_at s) ++ take k t) (drop-drop (y * k) rows_at s)))
  where
    one : (y : ℕ) → y < h → row_good s w y ≡ true → row_at w y + row_digits w < row_at w h → row_text w (dots_in s w h) y ≡ take (row_digits w + 1) (drop (row_at w y) s)
    one y l G inside =
        ap (λ v. hex (row_digits w) v ++ (line_feed ∷ [])) (sym (row-value s w y G h l))
        ∙ sym (line-text s (row_at w y) (row_digits w) (omega arith) (row-digits s w y G) (row-feed s w y G))

-- line one
module _ (s : List ℕ) (G : head_good s ≡ true) (long : rows_at ≤ length s) where
  head-tests : (leb rows_at (length s) && digits_at s 0 40) ≡ true
  unfolding head_good
  head-tests = and_left (leb rows_at (length s) && digits_at s 0 40) (eqb (get_or s 40 0) line_feed) G

  head-digits : (i : ℕ) → i < 40 → is_digit (get_or s i 0) ≡ true
  head-digits i l =
      let e : 0 + i ≡ i = omega arith in
      subst (λ k. is_digit (get_or s k 0) ≡ true) e (every-at (λ i. is_digit (get_or s (0 + i) 0)) 40 i (and_right (leb rows_at (length s)) (digits_at s 0 40) head-tests) l)

  head-feed : get_or s 40 0 ≡ line_feed
  unfolding head_good
  head-feed = eqb-true (get_or s 40 0) line_feed (and_right (leb rows_at (length s) && digits_at s 0 40) (eqb (get_or s 40 0) line_feed) G)

  part : (at n : ℕ) → at + n ≤ 40 → take n (drop at s) ≡ hex n (number_at s at n)
  part at n h = digits-text s at n (omega arith) (λ i l. head-digits (at + i) (omega arith))

  head-text : take 41 s ≡ hex 4 (width_of s) ++ hex 4 (height_of s) ++ hex 16 (skew_of s) ++ hex 16 (slope_of s) ++ (line_feed ∷ [])
  head-text =
      take-suc s 40 0 (omega arith)
      ∙ (λ i.
      (take-add 24 16 s
      ∙ (λ j. (take-add 8 16 s ∙ (λ k. (take-add 4 4 s ∙ (λ m. part 0 4 (omega arith) m ++ part 4 4 (omega arith) m)) k ++ part 8 16 (omega arith) k)) j ++ part 24 16 (omega arith) j)) i
      ++ (head-feed i ∷ []))

-- a well made input is the text of what it says
pub text-of-parsed : (s : List ℕ) → well_made s ≡ true → page_text (width_of s) (height_of s) (skew_of s) (slope_of s) (mask_of s) ≡ s
unfolding page_text mask_of
text-of-parsed s W =
    let M = made s W in
    let w = width_of s in
    let h = height_of s in
    let b = M.bytes in
    let l = length-drop rows_at s in
    let rows : joined (row_text w (dots_in s w h)) h ≡ drop rows_at s =
    rows-text s w h (omega arith) (λ y k. every-at (row_good s w) h y M.rows k) h (le_refl h)
    ∙ take_all (h * (row_digits w + 1)) (drop rows_at s) (omega arith) in
    rw W ((λ i. sym (head-text s M.head (made-long s W)) i ++ rows i) ∙ take-append-drop rows_at s)

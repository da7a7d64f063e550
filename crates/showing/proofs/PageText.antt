-- The text of a page is well made, and says that page.
use mathlib.Core.Path.{◌≡◌, refl, sym, ap, ◌∙◌, subst}
use mathlib.Core.Bool.{Bool, true, false, cond, ◌&&◌, ◌||◌}
use mathlib.Core.List.{List, [], ◌∷◌, ◌++◌}
use Prim.Native.Nat.{ℕ, zero, suc, ◌+◌, ◌-◌, ◌*◌, ◌/◌, ◌%◌, ◌^◌, ◌≤◌, ◌<◌}
use native.Mathlib.Nat.{not-suc-le-zero, le_refl, pow-suc, div-div-eq-div-mul, div-lt_iff_lt-mul, div-add-mod', suc-mul, mul_comm, mul-mod_left, mul-le-mul_right}
use native.Mathlib.Decide.{ℕ_discrete, dec_lt}
use native.Mathlib.Omega.{arith}
use borrow.Author.Tests.{ltb-true, ltb-false, le-leb, lt-leb, eq-eqb}
use lib.Dec.{eqb, leb, ltb}
use lib.ListN.{length, get_or, take, drop, length-append, length-drop}
use lib.Pow.{shl-shr, shr-shr, shl_lt}
use lib.Seq.{take_all, take_at, drop_at, drop-drop, get_or-drop, get_or-take, take-take, take-append-le, drop-append-le, get_or_at, ext_get_or}
use Rattle.memory.specs.rules.Lists.{table}
use Rattle.memory.proofs.TableLaws.{get_or-table, length-table}
use Rattle.listing.specs.rules.Digits.{digit_of, hex, joined, line_feed}
use Rattle.judging.specs.rules.Spoiled.{every}
use Rattle.showing.specs.rules.Inputs.{is_digit, digit_value, number_at, width_of, height_of, skew_of, slope_of, rows_at, row_digits, row_at, row_number, row_dot, row_good, head_good, sides_good, well_made, dot_at, dots_in, page_of, parsed, mask_of, dots_number, row_text, page_text}
use Rattle.std.specs.Prelude.{Some}
use Rattle.listing.proofs.DigitLaws.{length-hex}
use Rattle.listing.proofs.TextLaws.{length-joined}
use Rattle.showing.proofs.ReadLaws.{every-all}
use Rattle.showing.proofs.InputLaws.{row_of, column-of}
use Rattle.showing.proofs.InputText.{hex-snoc, sixteen}

-- ---- digits
digit-is : (d : ℕ) → d < 16 → is_digit (digit_of d) ≡ true
unfolding is_digit digit_of
digit-is d h = go (ltb d 10) refl
  where
    go : (t : Bool) → ltb d 10 ≡ t → ((leb 48 (cond t (48 + d) (55 + d)) && leb (cond t (48 + d) (55 + d)) 57) || (leb 65 (cond t (48 + d) (55 + d)) && leb (cond t (48 + d) (55 + d)) 70)) ≡ true
    go true e = let l = ltb-true d 10 e in rw (le-leb 48 (48 + d) (omega arith), le-leb (48 + d) 57 (omega arith))
    go false e =
        let l = ltb-false d 10 e in
        rw (le-leb 48 (55 + d) (omega arith), lt-leb (55 + d) 57 (omega arith), le-leb 65 (55 + d) (omega arith), le-leb (55 + d) 70 (omega arith))

value-back : (d : ℕ) → d < 16 → digit_value (digit_of d) ≡ d
unfolding digit_value digit_of
value-back d h = go (ltb d 10) refl
  where
    go : (t : Bool) → ltb d 10 ≡ t → cond (leb (cond t (48 + d) (55 + d)) 57) (cond t (48 + d) (55 + d) % 16) ((cond t (48 + d) (55 + d) - 55) % 16) ≡ d
    go true e = let l = ltb-true d 10 e in rw (le-leb (48 + d) 57 (omega arith)) (omega arith)
    go false e = let l = ltb-false d 10 e in rw (lt-leb (55 + d) 57 (omega arith)) (omega arith)

-- the last of a list's first n + 1, and those before it
front-is : (s a : List ℕ) (at n b : ℕ) → length a ≡ n → take (suc n) (drop at s) ≡ a ++ (b ∷ []) → take n (drop at s) ≡ a
front-is s a at n b l e = sym (take-take n (suc n) (drop at s) (omega arith)) ∙ (ap (take n) e ∙ take_at a (b ∷ []) n l)

last-is : (s a : List ℕ) (at n b : ℕ) → length a ≡ n → take (suc n) (drop at s) ≡ a ++ (b ∷ []) → get_or s (at + n) 0 ≡ b
last-is s a at n b l e = sym (get_or-drop at s n 0) ∙ (sym (get_or-take (suc n) (drop at s) n 0 (le_refl (suc n))) ∙ (ap (λ t. get_or t n 0) e ∙ get_or_at a b [] 0 n l))

-- where the digits of v stand, v is read
module _ (s : List ℕ) (at : ℕ) where
  number_read : (n v : ℕ) → v < 16 ^ n → take n (drop at s) ≡ hex n v → number_at s at n ≡ v
  unfolding number_at
  number_read zero v h e = omega arith
  number_read (suc n) v h e =
      let p = pow-suc 16 n in
      let f = e ∙ hex-snoc n v in
      let small : v / 16 < 16 ^ n = (div-lt_iff_lt-mul {k = 16} {x = v} {y = 16 ^ n} (omega arith)).1 (omega arith) in
      let r : number_at s at n ≡ v / 16 = number_read n (v / 16) small (front-is s (hex n (v / 16)) at n (digit_of (v % 16)) (length-hex n (v / 16)) f) in
      let d : digit_value (get_or s (at + n) 0) ≡ v % 16 = ap digit_value (last-is s (hex n (v / 16)) at n (digit_of (v % 16)) (length-hex n (v / 16)) f) ∙ value-back (v % 16) (omega arith) in
      omega arith

  digits-read : (n v : ℕ) → take n (drop at s) ≡ hex n v → (i : ℕ) → i < n → is_digit (get_or s (at + i) 0) ≡ true
  digits-read zero v e i l = absurd (not-suc-le-zero l)
  digits-read (suc n) v e i l = go (digits-read n (v / 16)) (ℕ_discrete i n)
    where
      f : take (suc n) (drop at s) ≡ hex n (v / 16) ++ (digit_of (v % 16) ∷ [])
      f = e ∙ hex-snoc n v

      go : (take n (drop at s) ≡ hex n (v / 16) → (i : ℕ) → i < n → is_digit (get_or s (at + i) 0) ≡ true) → Dec (i ≡ n) → is_digit (get_or s (at + i) 0) ≡ true
      go ih (yes q) =
          ap (λ k. is_digit (get_or s (at + k) 0)) q
          ∙ (ap is_digit (last-is s (hex n (v / 16)) at n (digit_of (v % 16)) (length-hex n (v / 16)) f) ∙ digit-is (v % 16) (omega arith))
      go ih (no ne) = ih (front-is s (hex n (v / 16)) at n (digit_of (v % 16)) (length-hex n (v / 16)) f) i (omega arith)

-- ---- texts of one length, one after the other
joined_at : (f : ℕ → List ℕ) (k h y : ℕ) → ((i : ℕ) → length (f i) ≡ k) → y < h → take k (drop (y * k) (joined f h)) ≡ f y
unfolding joined
joined_at f k zero y each l = absurd (not-suc-le-zero l)
joined_at f k (suc h) y each l = go (joined_at f k h y each) (ℕ_discrete y h)
  where
    n : length (joined f h) ≡ h * k
    n = length-joined f k h each

    go : (y < h → take k (drop (y * k) (joined f h)) ≡ f y) → Dec (y ≡ h) → take k (drop (y * k) (joined f h ++ f h)) ≡ f y
    go ih (yes q) =
        (λ i. take k (drop (q i * k) (joined f h ++ f h)))
        ∙ (ap (take k) (drop_at (joined f h) (f h) (h * k) n) ∙ (take_all k (f h) (let e = each h in omega arith) ∙ ap f (sym q)))
    go ih (no ne) =
        let below : y < h = omega arith in
        let m : suc y * k ≤ h * k = mul-le-mul_right k below in
        let e : suc y * k ≡ y * k + k = suc-mul y k in
        let d = length-drop (y * k) (joined f h) in
        let n = length-joined f k h each in
        ap (take k) (drop-append-le (y * k) (joined f h) (f h) (omega arith))
        ∙ (take-append-le k (drop (y * k) (joined f h)) (f h) (omega arith) ∙ ih below)

-- ---- dots
module _ (m : List ℕ) (bits : (i : ℕ) → get_or m i 0 ≤ 1) (at : ℕ) where
  dots-small : (n : ℕ) → dots_number m at n < 2 ^ n
  unfolding dots_number
  dots-small zero = omega arith
  dots-small (suc n) = let p = pow-suc 2 n in let i = dots-small n in let b = bits (at + n) in omega arith

  dots-back : (n x : ℕ) → x < n → dots_number m at n / 2 ^ (n - 1 - x) % 2 ≡ get_or m (at + x) 0
  unfolding dots_number
  dots-back zero x l = absurd (not-suc-le-zero l)
  dots-back (suc n) x l = go (dots-back n x) (ℕ_discrete x n)
    where
      go : (x < n → dots_number m at n / 2 ^ (n - 1 - x) % 2 ≡ get_or m (at + x) 0) → Dec (x ≡ n) → (dots_number m at n * 2 + get_or m (at + n) 0) / 2 ^ (suc n - 1 - x) % 2 ≡ get_or m (at + x) 0
      go ih (yes q) =
          let e : suc n - 1 - x ≡ 0 = omega arith in
          let b = bits (at + n) in
          rw (e, q) (let z : (dots_number m at n * 2 + get_or m (at + n) 0) / 1 % 2 ≡ get_or m (at + n) 0 = omega arith in z)
      go ih (no ne) =
          let e : suc n - 1 - x ≡ suc (n - 1 - x) = omega arith in
          let b = bits (at + n) in
          let v = dots_number m at n * 2 + get_or m (at + n) 0 in
          let half : v / 2 ≡ dots_number m at n = omega arith in
          ap (λ z. v / 2 ^ z % 2) e
          ∙ (ap (λ z. v / z % 2) (pow-suc 2 (n - 1 - x) ∙ mul_comm (2 ^ (n - 1 - x)) 2)
          ∙ (ap (λ z. z % 2) (sym (div-div-eq-div-mul v 2 (2 ^ (n - 1 - x)))) ∙ (ap (λ z. z / 2 ^ (n - 1 - x) % 2) half ∙ ih (omega arith))))

-- ---- the text of a page
suc-many : (n : ℕ) → rows_at ≤ suc (suc (suc (suc (suc (suc (suc (suc (suc (suc (suc (suc (suc (suc (suc (suc (suc (suc (suc (suc (suc (suc (suc (suc (suc (suc (suc (suc (suc (suc (suc (suc (suc (suc (suc (suc (suc (suc (suc (suc (suc n))))))))))))))))))))))))))))))))))))))))
suc-many n = omega arith

module _ (w h skew slope : ℕ) (m : List ℕ) (narrow : w ≤ 16) (low : h ≤ 16) (skew-fits : skew < 2 ^ 64) (slope-fits : slope < 2 ^ 64) (bits : (i : ℕ) → get_or m i 0 ≤ 1) where
  abbrev text : List ℕ
  text = page_text w h skew slope m

  width-at : take 4 (drop 0 text) ≡ hex 4 w
  unfolding page_text hex
  width-at = refl

  height-at : take 4 (drop 4 text) ≡ hex 4 h
  unfolding page_text hex
  height-at = refl

  skew-at : take 16 (drop 8 text) ≡ hex 16 skew
  unfolding page_text hex
  skew-at = refl

  slope-at : take 16 (drop 24 text) ≡ hex 16 slope
  unfolding page_text hex
  slope-at = refl

  feed-at : get_or text 40 0 ≡ line_feed
  unfolding page_text hex
  feed-at = refl

  rows-at : drop rows_at text ≡ joined (row_text w m) h
  unfolding page_text hex
  rows-at = refl

  width_is : width_of text ≡ w
  width_is = number_read text 0 4 w (omega arith) width-at

  height-is : height_of text ≡ h
  height-is = number_read text 4 4 h (omega arith) height-at

  skew-is : skew_of text ≡ skew
  skew-is = number_read text 8 16 skew skew-fits skew-at

  slope-is : slope_of text ≡ slope
  slope-is = number_read text 24 16 slope slope-fits slope-at

  head-digits : (i : ℕ) → i < 40 → is_digit (get_or text (0 + i) 0) ≡ true
  head-digits i l = go (dec_lt i 4) (dec_lt i 8) (dec_lt i 24)
    where
      at : (from n v : ℕ) → take n (drop from text) ≡ hex n v → from ≤ i → i < from + n → is_digit (get_or text (0 + i) 0) ≡ true
      at from n v e a b = let q : from + (i - from) ≡ 0 + i = omega arith in subst (λ k. is_digit (get_or text k 0) ≡ true) q (digits-read text from n v e (i - from) (omega arith))

      go : Dec (i < 4) → Dec (i < 8) → Dec (i < 24) → is_digit (get_or text (0 + i) 0) ≡ true
      go (yes a) b c = at 0 4 w width-at (omega arith) (omega arith)
      go (no a) (yes b) c = at 4 4 h height-at (omega arith) (omega arith)
      go (no a) (no b) (yes c) = at 8 16 skew skew-at (omega arith) (omega arith)
      go (no a) (no b) (no c) = at 24 16 slope slope-at (omega arith) (omega arith)

  row-length : (y : ℕ) → length (row_text w m y) ≡ row_digits w + 1
  unfolding row_text
  row-length y =
      let v = dots_number m (y * w) w * 2 ^ (4 * row_digits w - w) in
      length-append (hex (row_digits w) v) (line_feed ∷ []) ∙ ap (λ n. n + 1) (length-hex (row_digits w) v)

  head-fits : rows_at ≤ length text
  unfolding page_text hex
  head-fits = suc-many (length (joined (row_text w m) h))

  text-length : length text ≡ row_at w h
  text-length =
      let d = length-drop rows_at text in
      let e = ap length rows-at in
      let n = length-joined (row_text w m) (row_digits w + 1) h row-length in
      let b : rows_at ≤ length text = head-fits in
      omega arith

  -- row y
  module _ (y : ℕ) (below : y < h) where
    abbrev value : ℕ
    value = dots_number m (y * w) w * 2 ^ (4 * row_digits w - w)

    value-small : value < 16 ^ row_digits w
    value-small =
        let e : w + (4 * row_digits w - w) ≡ 4 * row_digits w = omega arith in
        subst (λ z. value < z) (ap (λ n. 2 ^ n) e ∙ sym (sixteen (row_digits w))) (shl_lt w (4 * row_digits w - w) (dots-small m bits (y * w) w))

    row-at : take (suc (row_digits w)) (drop (row_at w y) text) ≡ hex (row_digits w) value ++ (line_feed ∷ [])
    unfolding row_text
    row-at =
        let k : suc (row_digits w) ≡ row_digits w + 1 = omega arith in
        ap (λ n. take n (drop (row_at w y) text)) k
        ∙ (ap (take (row_digits w + 1)) (sym (drop-drop (y * (row_digits w + 1)) rows_at text) ∙ ap (drop (y * (row_digits w + 1))) rows-at)
        ∙ joined_at (row_text w m) (row_digits w + 1) h y row-length below)

    digits-at : take (row_digits w) (drop (row_at w y) text) ≡ hex (row_digits w) value
    digits-at = front-is text (hex (row_digits w) value) (row_at w y) (row_digits w) line_feed (length-hex (row_digits w) value) row-at

    number_is : row_number text w y ≡ value
    number_is = number_read text (row_at w y) (row_digits w) value value-small digits-at

    row-good : row_good text w y ≡ true
    unfolding row_good
    row-good = λ i.
        (every-all (λ j. is_digit (get_or text (row_at w y + j) 0)) (row_digits w) (digits-read text (row_at w y) (row_digits w) value digits-at) i
        && eq-eqb (get_or text (row_at w y + row_digits w) 0) line_feed (last-is text (hex (row_digits w) value) (row_at w y) (row_digits w) line_feed (length-hex (row_digits w) value) row-at) i)
        && eq-eqb (row_number text w y % 2 ^ (4 * row_digits w - w)) 0
        (ap (λ v. v % 2 ^ (4 * row_digits w - w)) number_is ∙ mul-mod_left (dots_number m (y * w) w) (2 ^ (4 * row_digits w - w))) i

    dot-is : (x : ℕ) → x < w → row_dot w (row_number text w y) x ≡ get_or m (y * w + x) 0
    dot-is x l =
        let a = 4 * row_digits w - w in
        let D = dots_number m (y * w) w in
        let e : 4 * row_digits w - 1 - x ≡ a + (w - 1 - x) = omega arith in
        (λ i. number_is i / 2 ^ e i % 2)
        ∙ (ap (λ z. z % 2) (sym (shr-shr (D * 2 ^ a) a (w - 1 - x)) ∙ ap (λ z. z / 2 ^ (w - 1 - x)) (shl-shr D a)) ∙ dots-back m bits (y * w) w x l)

  mask_is : length m ≡ w * h → dots_in text w h ≡ m
  unfolding dots_in
  mask_is size =
      ext_get_or 0 (table (dot_at text w) (w * h)) m (length-table (dot_at text w) (w * h) ∙ sym size)
      (λ i l.
      (let k : i < w * h = (let n = length-table (dot_at text w) (w * h) in omega arith) in
      get_or-table (dot_at text w) (w * h) i 0 k
      ∙ (dot-is (i / w) (row_of w h i k) (i % w) (column-of w h i k) ∙ ap (λ j. get_or m j 0) (div-add-mod' i w))))

  head-is : head_good text ≡ true
  unfolding head_good
  head-is = λ i. (le-leb rows_at (length text) head-fits i && every-all (λ j. is_digit (get_or text (0 + j) 0)) 40 head-digits i) && eq-eqb (get_or text 40 0) line_feed feed-at i

  sides-is : sides_good text ≡ true
  unfolding sides_good
  sides-is =
      (λ i. (leb (width_is i) 16 && leb (height-is i) 16) && eqb (length text) (row_at (width_is i) (height-is i)))
      ∙ (λ i. (le-leb w 16 narrow i && le-leb h 16 low i) && eq-eqb (length text) (row_at w h) text-length i)

  -- it is well made, and says the page
  pub text-well-made : well_made text ≡ true
  unfolding well_made
  text-well-made =
      (λ i. (head-is i && sides-is i) && every (row_good text (width_is i)) (height-is i)) ∙ every-all (row_good text w) h row-good

  pub text-parsed : parsed text ≡ Some (page_of w h skew slope)
  unfolding parsed
  text-parsed = rw text-well-made (λ i. Some (page_of (width_is i) (height-is i) (skew-is i) (slope-is i)))

  pub text-mask : length m ≡ w * h → mask_of text ≡ m
  unfolding mask_of
  text-mask size = rw text-well-made ((λ i. dots_in text (width_is i) (height-is i)) ∙ mask_is size)

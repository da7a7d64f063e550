-- The size of a drift over whole numbers, for a slope of size N / D up to 1 and columns up to 2 ^ 15.
use Rattle.std.proofs.Common.{◌≡◌, ℕ, suc, ◌+◌, ◌-◌, ◌*◌, ◌/◌, ◌^◌, ◌<◌, ◌≤◌, Bool, true, false, not, T, leb, sym, refl, ap, ◌∙◌, le_trans, le_of_eq, lt_of_lt_of_le, lt_of_le_of_lt, le_of_lt, mul-le-mul_right, mul_assoc, suc-mul, mul_comm, div-lt_iff_lt-mul, add-mul, lt_of_mul-lt-mul_right, mul-le-mul_left, one-mul, lt_of_not-le, mul-one, mul-add, div-mul-le_self, le_of_mul-le-mul_right, arith, lit<, lit≤, leb→le}
use native.Mathlib.Nat.{lt-div-mul-add}
use lib.Dec.{nleb→lt}
use lib.Ieee.{Float, binary64, round}
use lib.Ieee.Positive.{num, den, den_pos}
use Rattle.rounding.specs.rules.Rounding.{nearest_whole}
use Rattle.rounding.proofs.NearestWhole.{nearest_whole-mono, nearest_whole-low, nearest_whole-high, nearest_whole-at-most, nearest_whole-above}
use Rattle.rounding.proofs.RoundBounds.{finite-nonneg, round-at-most, round-at-least, round-in-order}

abbrev pub size : ℕ → ℕ → ℕ → ℕ
size c N D = nearest_whole (num (round binary64 false (c * N) D)) (den (round binary64 false (c * N) D))

module _ (N D : ℕ) (P : 0 < D) (S : N ≤ D) where
  abbrev Y : ℕ → Float
  Y c = round binary64 false (c * N) D

  at_most : (c : ℕ) → c * N * 2 ^ 0 ≤ c * D
  at_most c = le_trans (le_of_eq (mul-one (c * N))) (mul-le-mul_left c S)

  pub bound : (c : ℕ) → c ≤ 2 ^ 15 → T (finite-nonneg (Y c)) × (num (Y c) * 2 ^ 0 ≤ c * den (Y c))
  bound c C = round-at-most c 0 (c * N) D (lt_of_le_of_lt C (lit< tt)) (lit≤ tt) P (at_most c)

  -- at most c
  pub size-le : (c : ℕ) → c ≤ 2 ^ 15 → size c N D ≤ c
  size-le c C = nearest_whole-at-most (num (Y c)) (den (Y c)) c (den_pos (Y c)) (go (num (Y c)) (c * den (Y c)) (den (Y c)) (bound c C).1 (den_pos (Y c)))
    where
      go : (n q d : ℕ) → n * 1 ≤ q → 0 < d → 2 * n < 2 * q + d
      go n q d h k = omega arith

  -- it rises with c
  pub size_mono : (c c' : ℕ) → c ≤ c' → c' ≤ 2 ^ 15 → size c N D ≤ size c' N D
  size_mono c c' h C =
      nearest_whole-mono (num (Y c)) (den (Y c)) (num (Y c')) (den (Y c')) (den_pos (Y c)) (den_pos (Y c'))
      (round-in-order (c * N) D (c' * N) D P P (mul-le-mul_right D (mul-le-mul_right N h)) (bound c (le_trans h C)).0 (bound c' C).0)

  -- 2cN < (2n + 1) D for the size n at c
  below_half : (c : ℕ) → c ≤ 2 ^ 15 → 2 * (c * N) < (2 * size c N D + 1) * D
  below_half c C = lt_of_not-le (λ (h : (2 * size c N D + 1) * D ≤ 2 * (c * N)). native.Mathlib.Nat.lt_irrefl (size c N D) (above h))
    where
      out : (n d : ℕ) → (2 * n + 1) * d ≡ 2 * (n * d) + d
      out n d = add-mul (2 * n) 1 d ∙ ap (λ (z : ℕ). z + 1 * d) (mul_assoc 2 n d) ∙ ap (λ (z : ℕ). 2 * (n * d) + z) (one-mul d)

      small : (n c : ℕ) → n ≤ c → c ≤ 32768 → 2 * n + 1 < 9007199254740992
      small n c a b = omega arith

      above : (2 * size c N D + 1) * D ≤ 2 * (c * N) → size c N D < size c N D
      above h =
          let n = size c N D in
          let k : (2 * n + 1) * den (Y c) ≤ num (Y c) * 2 ^ 1 =
          round-at-least (2 * n + 1) 1 (c * N) D (small n c (size-le c C) C) (lit≤ tt) P (bound c C).0 (le_trans h (le_of_eq (mul_comm 2 (c * N)))) in
          nearest_whole-above (num (Y c)) (den (Y c)) n (den_pos (Y c)) (le_trans (le_of_eq (sym (out n (den (Y c))))) (le_trans k (le_of_eq (mul_comm (num (Y c)) 2))))

  -- it rises by at most one
  pub size_step : (c : ℕ) → c < 2 ^ 15 → size (suc c) N D ≤ suc (size c N D)
  size_step c C = go (leb (2 * (c * N) + D) (2 * (c * D))) (leb→le (2 * (c * N) + D) (2 * (c * D))) (nleb→lt (2 * (c * N) + D) (2 * (c * D)))
    where
      half_is : (n d : ℕ) → (2 * n + 1) * d ≡ 2 * (n * d) + d
      half_is n d = add-mul (2 * n) 1 d ∙ ap (λ (z : ℕ). z + 1 * d) (mul_assoc 2 n d) ∙ ap (λ (z : ℕ). 2 * (n * d) + z) (one-mul d)

      under : (n : ℕ) → 2 * (c * N) < 2 * (n * D) + D → 2 * (c * D) < 2 * (c * N) + D → c ≤ n
      under n a b = native.Mathlib.Nat.le_of_suc-le-suc (lt_of_mul-lt-mul_right D (lt_of_lt_of_le (close (c * N) (c * D) (n * D) a b) (le_of_eq (sym (suc-mul n D)))))
        where
          close : (A B Q : ℕ) → 2 * A < 2 * Q + D → 2 * B < 2 * A + D → B < Q + D
          close A B Q a b = omega arith

      -- the slope is 1 - E / D, with E / D at least 2 ^ -16
      gap : 2 * (c * N) + D ≤ 2 * (c * D) → 65536 * N + D ≤ 65536 * D
      gap h = last N (D - N) (c * N) (c * (D - N)) D S refl (split (c * N) (c * (D - N)) (c * D) D h (sym (mul-add c N (D - N)) ∙ ap (λ (z : ℕ). c * z) (whole N D S))) (mul-le-mul_right (D - N) (le_of_lt C))
        where
          whole : (N D : ℕ) → N ≤ D → N + (D - N) ≡ D
          whole N D h = omega arith

          split : (A F B D : ℕ) → 2 * A + D ≤ 2 * B → A + F ≡ B → D ≤ 2 * F
          split A F B D h e = omega arith

          last : (N E A F D : ℕ) → N ≤ D → E ≡ D - N → D ≤ 2 * F → F ≤ 32768 * E → 65536 * N + D ≤ 65536 * D
          last N E A F D s e h k = omega arith

      wide : (n d : ℕ) → (65536 * n + 98303) * d ≡ 65536 * (n * d) + 98303 * d
      wide n d = add-mul (65536 * n) 98303 d ∙ ap (λ (z : ℕ). z + 98303 * d) (mul_assoc 65536 n d)

      under_next : (n : ℕ) → 2 * (c * N) < 2 * (n * D) + D → 65536 * N + D ≤ 65536 * D → suc c * N * 2 ^ 16 ≤ (65536 * n + 98303) * D
      under_next n a b = le_trans (le_of_eq (ap (λ (z : ℕ). z * 2 ^ 16) (suc-mul c N))) (le_trans (close (c * N) (n * D) N D a b) (le_of_eq (sym (wide n D))))
        where
          close : (A Q N D : ℕ) → 2 * A < 2 * Q + D → 65536 * N + D ≤ 65536 * D → (A + N) * 65536 ≤ 65536 * Q + 98303 * D
          close A Q N D a b = omega arith

      few : (n c : ℕ) → n ≤ c → c < 32768 → 65536 * n + 98303 < 9007199254740992
      few n c a b = omega arith

      finish : (n m d : ℕ) → 0 < d → m * 2 ^ 16 ≤ (65536 * n + 98303) * d → 2 * m < 2 * (suc n * d) + d
      finish n m d p h = lt_of_lt_of_le (close m (n * d) d p (le_trans h (le_of_eq (wide n d)))) (le_of_eq (sym (ap (λ (z : ℕ). 2 * z + d) (suc-mul n d))))
        where
          close : (m R d : ℕ) → 0 < d → m * 65536 ≤ 65536 * R + 98303 * d → 2 * m < 2 * (R + d) + d
          close m R d p h = omega arith

      go : (b : Bool) → (T b → 2 * (c * N) + D ≤ 2 * (c * D)) → (T (not b) → 2 * (c * D) < 2 * (c * N) + D) → size (suc c) N D ≤ suc (size c N D)
      go true h k =
          let n = size c N D in
          let b : 2 * (c * N) < 2 * (n * D) + D = lt_of_lt_of_le (below_half c (le_of_lt C)) (le_of_eq (half_is n D)) in
          let u = round-at-most (65536 * n + 98303) 16 (suc c * N) D (few n c (size-le c (le_of_lt C)) C) (lit≤ tt) P (under_next n b (gap (h tt))) in
          nearest_whole-at-most (num (Y (suc c))) (den (Y (suc c))) (suc n) (den_pos (Y (suc c))) (finish n (num (Y (suc c))) (den (Y (suc c))) (den_pos (Y (suc c))) u.1)
      go false h k =
          let n = size c N D in
          let b : 2 * (c * N) < 2 * (n * D) + D = lt_of_lt_of_le (below_half c (le_of_lt C)) (le_of_eq (half_is n D)) in
          le_trans (size-le (suc c) C) (Prim.Native.Nat.suc-le-suc (under n b (k tt)))

  -- within 1/2 + 2 ^ -31 of c * N / D, both ways
  pub size-near : (c : ℕ) → c ≤ 2 ^ 15
      → (size c N D * D * 2 ^ 32 ≤ c * N * 2 ^ 32 + (2 ^ 31 + 2) * D) × (c * N * 2 ^ 32 ≤ size c N D * D * 2 ^ 32 + (2 ^ 31 + 2) * D)
  size-near c C =
      let A = c * N in
      let u = A * 2 ^ 31 / D in
      let n = num (Y c) in
      let d = den (Y c) in
      let G = size c N D in
      let cut : u * D ≤ A * 2 ^ 31 = div-mul-le_self (A * 2 ^ 31) D in
      let next : A * 2 ^ 31 ≤ suc u * D = le_trans (le_of_lt (lt-div-mul-add P)) (le_of_eq (sym (suc-mul u D))) in
      let few : u < 2 ^ 47 = (div-lt_iff_lt-mul P).1 (small A (c * D) c D (mul-le-mul_left c S) (mul-le-mul_right D C) P) in
      let lo : u * d ≤ n * 2 ^ 31 = round-at-least u 31 A D (lt_of_lt_of_le few (lit≤ tt)) (lit≤ tt) P (bound c C).0 cut in
      let hi : n * 2 ^ 31 ≤ suc u * d = (round-at-most (suc u) 31 A D (lt_of_le_of_lt few (lit< tt)) (lit≤ tt) P next).1 in
      let g1 : 4294967296 * G ≤ 2 * u + 2147483650 = le_of_mul-le-mul_right (le_trans (le_of_eq (mul_assoc 4294967296 G d)) (le_trans (hi1 (G * d) n d (u * d) (nearest_whole-low n d) (le_trans hi (le_of_eq (suc-mul u d)))) (le_of_eq (sym (out u d))))) (den_pos (Y c)) in
      let g2 : 2 * u ≤ 4294967296 * G + 2147483648 = le_of_mul-le-mul_right (le_trans (le_of_eq (mul_assoc 2 u d)) (le_trans (lo1 (G * d) n d (u * d) (nearest_whole-high n d (den_pos (Y c))) lo) (le_of_eq (sym (out2 G d))))) (den_pos (Y c)) in (
        hi2 (G * D) A D (u * D) cut (le_trans (le_of_eq (sym (mul_assoc 4294967296 G D))) (le_trans (mul-le-mul_right D g1) (le_of_eq (out u D)))),
        lo2 (G * D) A D (u * D) (le_trans next (le_of_eq (suc-mul u D))) (le_trans (le_of_eq (sym (mul_assoc 2 u D))) (le_trans (mul-le-mul_right D g2) (le_of_eq (out2 G D)))),
      )
    where
      small : (A B c D : ℕ) → A ≤ B → B ≤ 32768 * D → 0 < D → A * 2147483648 < 140737488355328 * D
      small A B c D a b p = omega arith

      out : (u d : ℕ) → (2 * u + 2147483650) * d ≡ 2 * (u * d) + 2147483650 * d
      out u d = add-mul (2 * u) 2147483650 d ∙ ap (λ (z : ℕ). z + 2147483650 * d) (mul_assoc 2 u d)

      out2 : (G d : ℕ) → (4294967296 * G + 2147483648) * d ≡ 4294967296 * (G * d) + 2147483648 * d
      out2 G d = add-mul (4294967296 * G) 2147483648 d ∙ ap (λ (z : ℕ). z + 2147483648 * d) (mul_assoc 4294967296 G d)

      hi1 : (g n d q : ℕ) → 2 * g ≤ 2 * n + d → n * 2147483648 ≤ q + d → 4294967296 * g ≤ 2 * q + 2147483650 * d
      hi1 g n d q a b = omega arith

      lo1 : (g n d q : ℕ) → 2 * n < 2 * g + d → q ≤ n * 2147483648 → 2 * q ≤ 4294967296 * g + 2147483648 * d
      lo1 g n d q a b = omega arith

      hi2 : (g A D q : ℕ) → q ≤ A * 2147483648 → 4294967296 * g ≤ 2 * q + 2147483650 * D → g * 4294967296 ≤ A * 4294967296 + 2147483650 * D
      hi2 g A D q a b = omega arith

      lo2 : (g A D q : ℕ) → A * 2147483648 ≤ q + D → 2 * q ≤ 4294967296 * g + 2147483648 * D → A * 4294967296 ≤ g * 4294967296 + 2147483650 * D
      lo2 g A D q a b = omega arith

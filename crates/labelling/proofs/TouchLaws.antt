-- Dots that touch, by their numbers; runs touch just where dots of them do.
use mathlib.Core.Path.{◌≡◌, refl, sym, ap, ◌∙◌}
use mathlib.Core.List.{List}
use mathlib.Core.Bool.{Bool, true, false, ◌&&◌, true≢false}
use mathlib.Core.Logic.{◌⊎◌, inl, inr}
use Prim.Native.Nat.{ℕ, suc, ◌+◌, ◌-◌, ◌*◌, ◌/◌, ◌%◌, ◌≤◌, ◌<◌, min}
use native.Mathlib.Nat.{div-add-mod', mod-lt, suc-mul, mul-le-mul_right, le_refl}
use native.Mathlib.Decide.{ℕ_discrete, dec_lt, dec_le}
use native.Mathlib.Omega.{arith}
use borrow.Author.Tests.{leb-true, le-leb, eqb-true, eq-eqb}
use Rattle.memory.specs.rules.Masks.{is_ink}
use Rattle.labelling.specs.rules.Labels.{touches}
use Rattle.labelling.specs.stages.InkRuns.{Runs, touch_runs}

pub and_both : (x y : Bool) → (x && y) ≡ true → (x ≡ true) × (y ≡ true)
and_both true y e = (refl, e)
and_both false y e = absurd (true≢false (sym e))

pub and_intro : {x y : Bool} → x ≡ true → y ≡ true → (x && y) ≡ true
and_intro p q = rw (p, q)

-- what `touches` tests
pub record Near (w : ℕ) (m : List ℕ) (a b : ℕ) : Type 0 where
  pub ink-a : is_ink m a ≡ true
  pub ink-b : is_ink m b ≡ true
  pub x-le : a % w ≤ b % w + 1
  pub x-ge : b % w ≤ a % w + 1
  pub y-le : a / w ≤ b / w + 1
  pub y-ge : b / w ≤ a / w + 1

pub near_of : (w : ℕ) (m : List ℕ) (a b : ℕ) → touches w m a b ≡ true → Near w m a b
unfolding touches
near_of w m a b e =
    let s₁ = and_both _ _ e in
    let s₂ = and_both _ _ s₁.0 in
    let s₃ = and_both _ _ s₂.0 in
    let s₄ = and_both _ _ s₃.0 in
    let s₅ = and_both _ _ s₄.0 in
    record {
      ink-a = s₅.0;
      ink-b = s₅.1;
      x-le = leb-true _ _ s₄.1;
      x-ge = leb-true _ _ s₃.1;
      y-le = leb-true _ _ s₂.1;
      y-ge = leb-true _ _ s₁.1;
    }

pub near-to : (w : ℕ) (m : List ℕ) (a b : ℕ) → Near w m a b → touches w m a b ≡ true
unfolding touches
near-to w m a b t =
    and_intro
    (and_intro (and_intro (and_intro (and_intro t.ink-a t.ink-b) (le-leb _ _ t.x-le)) (le-leb _ _ t.x-ge)) (le-leb _ _ t.y-le))
    (le-leb _ _ t.y-ge)

module _ (w : ℕ) (m : List ℕ) (hw : 0 < w) where
  -- the dots of the row below stand w further on
  pub row_same : (a b : ℕ) → a / w ≡ b / w → b % w + a ≡ a % w + b
  row_same a b e =
      let ea = div-add-mod' a w in
      let eb = div-add-mod' b w in
      let e₂ : a / w * w ≡ b / w * w = ap (λ z. z * w) e in
      omega arith

  pub row_next : (a b : ℕ) → a / w + 1 ≡ b / w → b % w + a + w ≡ a % w + b
  row_next a b e =
      let ea = div-add-mod' a w in
      let eb = div-add-mod' b w in
      let z : a / w + 1 ≡ suc (a / w) = omega arith in
      let e₂ : b / w * w ≡ a / w * w + w = ap (λ z. z * w) (sym e ∙ z) ∙ suc-mul (a / w) w in
      omega arith

  -- a dot after another lies in no earlier row
  pub row-rise : (a b : ℕ) → a ≤ b → a / w ≤ b / w
  row-rise a b l = go (dec_le (a / w) (b / w))
    where
      -- a / w = b / w + 1 + d
      go : Dec (a / w ≤ b / w) → a / w ≤ b / w
      go (yes h) = h
      go (no h) =
          let ea = div-add-mod' a w in
          let eb = div-add-mod' b w in
          let lb : b % w < w = mod-lt b hw in
          let h₂ : suc (b / w) * w ≤ a / w * w = mul-le-mul_right w (omega arith) in
          let h₃ : suc (b / w) * w ≡ b / w * w + w = suc-mul (b / w) w in
          absurd (omega arith)

  -- two dots, the second later, touch: it is the next in the row, or stands below, at most one column off
  pub near-cases : (a b : ℕ) → a < b → Near w m a b → ((b ≡ suc a) × (a / w ≡ b / w)) ⊎ ((a / w + 1 ≡ b / w) × (a + w ≤ b + 1) × (b ≤ a + w + 1))
  near-cases a b l t = go (ℕ_discrete (a / w) (b / w))
    where
      go : Dec (a / w ≡ b / w) → ((b ≡ suc a) × (a / w ≡ b / w)) ⊎ ((a / w + 1 ≡ b / w) × (a + w ≤ b + 1) × (b ≤ a + w + 1))
      go (yes e) = let h = row_same a b e in let h₂ = t.x-ge in inl (omega arith, e)
      go (no n) =
          let h₁ = row-rise a b (omega arith) in
          let h₂ = t.y-ge in
          let e : a / w + 1 ≡ b / w = omega arith in
          let h = row_next a b e in
          let x₁ = t.x-le in
          let x₂ = t.x-ge in
          inr (e, omega arith, omega arith)

  pub near-below : (a b : ℕ) → is_ink m a ≡ true → is_ink m b ≡ true → a / w + 1 ≡ b / w → a + w ≤ b + 1 → b ≤ a + w + 1 → Near w m a b
  near-below a b ia ib e l₁ l₂ =
      let h = row_next a b e in
      record { ink-a = ia; ink-b = ib; x-le = omega arith; x-ge = omega arith; y-le = omega arith; y-ge = omega arith }

  pub near-beside : (a : ℕ) → is_ink m a ≡ true → is_ink m (suc a) ≡ true → a / w ≡ suc a / w → Near w m a (suc a)
  near-beside a ia ib e =
      let h = row_same a (suc a) e in
      record { ink-a = ia; ink-b = ib; x-le = omega arith; x-ge = omega arith; y-le = omega arith; y-ge = omega arith }

  module _ (n c : ℕ) (start end run_at : ℕ → ℕ) (R : Runs w m n c start end run_at) where
    -- a dot of run k has k for its run
    pub run-of : (k i : ℕ) → k < c → start k ≤ i → i < end k → run_at i ≡ k
    run-of k i lk l₁ l₂ = go (dec_lt (run_at i) k) (dec_lt k (run_at i))
      where
        ii : is_ink m i ≡ true
        ii = R.ink k i lk l₁ l₂

        li : i < n
        li = let h = R.within k lk in omega arith

        go : Dec (run_at i < k) → Dec (k < run_at i) → run_at i ≡ k
        go (yes h) d = absurd (let h₂ = R.rising (run_at i) k h lk in let h₃ = R.upto i li ii in omega arith)
        go (no h) (yes d) = absurd (let h₂ = R.rising k (run_at i) d (R.has i li ii) in let h₃ = R.from i li ii in omega arith)
        go (no h) (no d) = omega arith

    pub starts-rise : (j k : ℕ) → j ≤ k → k < c → start j ≤ start k
    starts-rise j k l lk = go (ℕ_discrete j k)
      where
        go : Dec (j ≡ k) → start j ≤ start k
        go (yes e) = rw e (le_refl (start k))
        go (no ne) = let h = R.some j (omega arith) in let h₂ = R.rising j k (omega arith) lk in omega arith

    pub row_of : (i : ℕ) → i < n → is_ink m i ≡ true → i / w ≡ start (run_at i) / w
    row_of i li ii = R.row (run_at i) i (R.has i li ii) (R.from i li ii) (R.upto i li ii)

    -- two dots next to each other in a row are of one run
    pub beside_same : (a : ℕ) → suc a < n → is_ink m a ≡ true → is_ink m (suc a) ≡ true → a / w ≡ suc a / w → run_at a ≡ run_at (suc a)
    beside_same a l ia ib e = go (dec_lt (run_at a) (run_at (suc a))) (dec_lt (run_at (suc a)) (run_at a))
      where
        la : a < n
        la = omega arith

        go : Dec (run_at a < run_at (suc a)) → Dec (run_at (suc a) < run_at a) → run_at a ≡ run_at (suc a)
        go (yes h) d =
            let r : start (run_at a) / w ≡ start (run_at (suc a)) / w = sym (row_of a la ia) ∙ (e ∙ row_of (suc a) l ib) in
            let h₂ = R.apart (run_at a) (run_at (suc a)) h (R.has (suc a) l ib) r in
            let h₃ = R.upto a la ia in
            let h₄ = R.from (suc a) l ib in
            absurd (omega arith)
        go (no h) (yes d) =
            let h₂ = R.rising (run_at (suc a)) (run_at a) d (R.has a la ia) in
            let h₃ = R.upto (suc a) l ib in
            let h₄ = R.from a la ia in
            absurd (omega arith)
        go (no h) (no d) = omega arith

    -- dots that touch across rows: their runs touch, the upper one being the earlier
    pub touch-up : (a b : ℕ) → b < n → is_ink m a ≡ true → is_ink m b ≡ true → a / w + 1 ≡ b / w → a + w ≤ b + 1 → b ≤ a + w + 1 → a < b → (run_at a < run_at b) × (touch_runs w start end (run_at a) (run_at b) ≡ true)
    unfolding touch_runs
    touch-up a b lb ia ib e l₁ l₂ l =
        let la : a < n = omega arith in
        let ra = row_of a la ia in
        let rb = row_of b lb ib in
        let fa = R.from a la ia in
        let fb = R.from b lb ib in
        let ua = R.upto a la ia in
        let ub = R.upto b lb ib in
        (order (dec_lt (run_at a) (run_at b)) (ℕ_discrete (run_at a) (run_at b)) ra rb fa ua ub fb, and_intro (and_intro (eq-eqb (start (run_at a) / w + 1) (start (run_at b) / w) (omega arith)) (le-leb (start (run_at a) + w) (end (run_at b)) (omega arith))) (le-leb (start (run_at b)) (end (run_at a) + w) (omega arith)))
      where
        order : Dec (run_at a < run_at b) → Dec (run_at a ≡ run_at b) → a / w ≡ start (run_at a) / w → b / w ≡ start (run_at b) / w → start (run_at a) ≤ a → a < end (run_at a) → b < end (run_at b) → start (run_at b) ≤ b → run_at a < run_at b
        order (yes h) d ra rb fa ua ub fb = h
        order (no h) (yes q) ra rb fa ua ub fb = absurd (let z : start (run_at a) / w ≡ start (run_at b) / w = ap (λ k. start k / w) q in omega arith)
        order (no h) (no q) ra rb fa ua ub fb = absurd (let h₂ = R.rising (run_at b) (run_at a) (omega arith) (R.has a (omega arith) ia) in omega arith)

    -- and where runs touch, dots of them do
    pub touch-dots : (a b : ℕ) → a < b → b < c → touch_runs w start end a b ≡ true → (x : ℕ) × (y : ℕ) × (start a ≤ x) × (x < end a) × (start b ≤ y) × (y < end b) × (x < y) × (touches w m x y ≡ true)
    unfolding touch_runs
    touch-dots a b l lb t =
        let s = and_both _ _ t in
        let s₂ = and_both _ _ s.0 in
        go (eqb-true _ _ s₂.0) (leb-true _ _ s₂.1) (leb-true _ _ s.1) (R.some a (omega arith)) (R.some b lb) (R.rising a b l lb) (dec_le (start a + w) (start b))
      where
        at-dots : (x y : ℕ) → start a / w + 1 ≡ start b / w → start a ≤ x → x < end a → start b ≤ y → y < end b → x + w ≤ y + 1 → y ≤ x + w + 1 → touches w m x y ≡ true
        at-dots x y e l₁ l₂ l₃ l₄ l₅ l₆ =
            let rx = R.row a x (omega arith) l₁ l₂ in
            let ry = R.row b y lb l₃ l₄ in
            near-to w m x y (near-below x y (R.ink a x (omega arith) l₁ l₂) (R.ink b y lb l₃ l₄) (omega arith) l₅ l₆)

        go : start a / w + 1 ≡ start b / w → start a + w ≤ end b → start b ≤ end a + w → start a < end a → start b < end b → end a ≤ start b → Dec (start a + w ≤ start b) → (x : ℕ) × (y : ℕ) × (start a ≤ x) × (x < end a) × (start b ≤ y) × (y < end b) × (x < y) × (touches w m x y ≡ true)
        go e h₁ h₂ h₃ h₄ h₅ (yes q) =
            let x = min (start b - w) (end a - 1) in
            let g₁ : start a ≤ x = omega arith in
            let g₂ : x < end a = omega arith in
            (x, start b, g₁, g₂, le_refl (start b), h₄, omega arith, at-dots x (start b) e g₁ g₂ (le_refl (start b)) h₄ (omega arith) (omega arith))
        go e h₁ h₂ h₃ h₄ h₅ (no q) =
            let y = min (start a + w) (end b - 1) in
            let g₁ : start b ≤ y = omega arith in
            let g₂ : y < end b = omega arith in
            (start a, y, le_refl (start a), h₃, g₁, g₂, omega arith, at-dots (start a) y e (le_refl (start a)) h₃ g₁ g₂ (omega arith) (omega arith))

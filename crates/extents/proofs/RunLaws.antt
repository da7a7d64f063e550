-- Runs of places that pass a test: their lengths by counters, from their ends, and their bounds.
use mathlib.Core.Path.{◌≡◌, refl, sym, ap, ◌∙◌}
use mathlib.Core.Bool.{Bool, true, false, cond, true≢false}
use Prim.Native.Nat.{ℕ, zero, suc, ◌+◌, ◌-◌, ◌≤◌, ◌<◌}
use native.Mathlib.Nat.{le_refl}
use native.Mathlib.Decide.{dec_lt, dec_le}
use native.Mathlib.Omega.{arith}
use lib.Dec.{eqb, eqb-suc-suc, eqb-zero-suc}
use Rattle.extents.specs.rules.Extents.{behind, ahead, run_through}
use Rattle.extents.specs.stages.Scans.{Starts, clear, blank}

-- the counter: one more after a place that passes, 0 after another
pub behind-on : (p : ℕ → Bool) (x : ℕ) → p x ≡ true → behind p (suc x) ≡ suc (behind p x)
unfolding behind
behind-on p x e = rw e

pub behind-off : (p : ℕ → Bool) (x : ℕ) → p x ≡ false → behind p (suc x) ≡ 0
unfolding behind
behind-off p x e = rw e

pub ahead-on : (p : ℕ → Bool) (x n : ℕ) → p x ≡ true → ahead p x (suc n) ≡ suc (ahead p (suc x) n)
unfolding ahead
ahead-on p x n e = rw e

pub ahead-off : (p : ℕ → Bool) (x n : ℕ) → p x ≡ false → ahead p x n ≡ 0
unfolding ahead
ahead-off p x zero e = refl
ahead-off p x (suc n) e = rw e

pub behind-le : (p : ℕ → Bool) (x : ℕ) → behind p x ≤ x
unfolding behind
behind-le p zero = omega arith
behind-le p (suc x) = go (p x) (behind-le p x)
  where
    go : (b : Bool) → behind p x ≤ x → cond b (suc (behind p x)) 0 ≤ suc x
    go true h = omega arith
    go false h = omega arith

pub ahead-le : (p : ℕ → Bool) (x n : ℕ) → ahead p x n ≤ n
unfolding ahead
ahead-le p x zero = omega arith
ahead-le p x (suc n) = go (p x) (ahead-le p (suc x) n)
  where
    go : (b : Bool) → ahead p (suc x) n ≤ n → cond b (suc (ahead p (suc x) n)) 0 ≤ suc n
    go true h = omega arith
    go false h = omega arith

pub run_through-on : (p : ℕ → Bool) (n x : ℕ) → p x ≡ true → run_through p n x ≡ behind p x + ahead p x (n - x)
unfolding run_through
run_through-on p n x e = rw e

pub run_through-off : (p : ℕ → Bool) (n x : ℕ) → p x ≡ false → run_through p n x ≡ 0
unfolding run_through
run_through-off p n x e = rw e

-- a count that begins at a, and goes on before it where all from a on pass
pub behind-from : (p : ℕ → Bool) (a n : ℕ) → behind p (a + n) ≡ behind (λ j. p (a + j)) n + cond (eqb (behind (λ j. p (a + j)) n) n) (behind p a) 0
unfolding behind
behind-from p a zero = ap (behind p) (let z : a + 0 ≡ a = omega arith in z) ∙ (let z : behind p a ≡ 0 + behind p a = omega arith in z)
behind-from p a (suc n) = ap (behind p) (let z : a + suc n ≡ suc (a + n) = omega arith in z) ∙ go (p (a + n)) (behind-from p a n)
  where
    q : ℕ
    q = behind (λ j. p (a + j)) n

    go : (b : Bool) → behind p (a + n) ≡ q + cond (eqb q n) (behind p a) 0
        → cond b (suc (behind p (a + n))) 0 ≡ cond b (suc q) 0 + cond (eqb (cond b (suc q) 0) (suc n)) (behind p a) 0
    go true h = rw (eqb-suc-suc q n) (omega arith)
    go false h = rw (eqb-zero-suc n) refl

-- Runs from their ends

pub behind-run : (p : ℕ → Bool) (s j : ℕ) → behind p s ≡ 0 → ((k : ℕ) → s ≤ k → k < s + j → p k ≡ true) → behind p (s + j) ≡ j
behind-run p s zero z h = ap (behind p) (let e : s + 0 ≡ s = omega arith in e) ∙ z
behind-run p s (suc j) z h =
    ap (behind p) (let e : s + suc j ≡ suc (s + j) = omega arith in e)
    ∙ (behind-on p (s + j) (h (s + j) (omega arith) (omega arith)) ∙ ap suc (behind-run p s j z (λ k a b. h k a (omega arith))))

pub ahead-run : (p : ℕ → Bool) (x j n : ℕ) → ahead p (x + j) n ≡ 0 → ((k : ℕ) → x ≤ k → k < x + j → p k ≡ true) → ahead p x (j + n) ≡ j
unfolding ahead
ahead-run p x zero n z h = (λ i. ahead p ((let e : x ≡ x + 0 = omega arith in e) i) ((let e : 0 + n ≡ n = omega arith in e) i)) ∙ z
ahead-run p x (suc j) n z h =
    ap (ahead p x) (let e : suc j + n ≡ suc (j + n) = omega arith in e)
    ∙ rw (h x (le_refl x) (omega arith)) (ap suc (ahead-run p (suc x) j n (ap (λ k. ahead p k n) (let e : suc x + j ≡ x + suc j = omega arith in e) ∙ z) (λ k a b. h k (omega arith) (omega arith))))

-- a run from s up to e, no place that passes just before s, nor from e on: its length at each of its places
pub run_through-ends : (p : ℕ → Bool) (n s e : ℕ) → e ≤ n → behind p s ≡ 0 → ahead p e (n - e) ≡ 0 → ((k : ℕ) → s ≤ k → k < e → p k ≡ true)
    → (x : ℕ) → s ≤ x → x < e → run_through p n x ≡ e - s
run_through-ends p n s e le z₁ z₂ h x a b =
    let e₁ : s + (x - s) ≡ x = omega arith in
    let e₂ : x + (e - x) ≡ e = omega arith in
    let e₃ : e - x + (n - e) ≡ n - x = omega arith in
    let f₁ : behind p x ≡ x - s = ap (behind p) (sym e₁) ∙ behind-run p s (x - s) z₁ (λ k c d. h k c (omega arith)) in
    let f₂ : ahead p x (n - x) ≡ e - x = ap (ahead p x) (sym e₃) ∙ ahead-run p x (e - x) (n - e) (ap (λ k. ahead p k (n - e)) e₂ ∙ z₂) (λ k c d. h k (omega arith) (omega arith)) in
    run_through-on p n x (h x a b) ∙ omega (arith, f₁, f₂)

pub starts-zero : (p : ℕ → Bool) → Starts p 0
unfolding behind
starts-zero p = clear refl

pub starts-run : (p : ℕ → Bool) (x : ℕ) → Starts p x → p x ≡ true → behind p x ≡ 0
starts-run p x (clear z) e = z
starts-run p x (blank f) e = absurd (true≢false (sym e ∙ f))

-- Runs bounded by what does not pass

behind-short : (p : ℕ → Bool) (x j : ℕ) → behind p x ≡ 0 → behind p (x + j) ≤ j
behind-short p x zero z = let e : x + 0 ≡ x = omega arith in rw e (rw z (le_refl 0))
behind-short p x (suc j) z = let e : x + suc j ≡ suc (x + j) = omega arith in rw e (go (p (x + j)) refl (behind-short p x j z))
  where
    go : (b : Bool) → p (x + j) ≡ b → behind p (x + j) ≤ j → behind p (suc (x + j)) ≤ suc j
    go true e h = let q = behind-on p (x + j) e in omega arith
    go false e h = let q = behind-off p (x + j) e in omega arith

ahead-short : (p : ℕ → Bool) (j x n : ℕ) → p (x + j) ≡ false → ahead p x n ≤ j
ahead-short p zero x n e = let q = ahead-off p x n (ap p (let z : x ≡ x + 0 = omega arith in z) ∙ e) in omega arith
ahead-short p (suc j) x zero e = let q = ahead-le p x 0 in omega arith
ahead-short p (suc j) x (suc n) e = go (p x) refl (ahead-short p j (suc x) n (ap p (let z : suc x + j ≡ x + suc j = omega arith in z) ∙ e))
  where
    go : (b : Bool) → p x ≡ b → ahead p (suc x) n ≤ j → ahead p x (suc n) ≤ suc j
    go true f h = let q = ahead-on p x n f in omega arith
    go false f h = let q = ahead-off p x (suc n) f in omega arith

-- no run between a start x and a place e that does not pass is longer than what lies between
pub run_through-between : (p : ℕ → Bool) (n x e k : ℕ) → Starts p x → p e ≡ false → x ≤ k → k ≤ e → run_through p n k ≤ e - x
run_through-between p n x e k S f a b = go (p k) refl
  where
    go : (t : Bool) → p k ≡ t → run_through p n k ≤ e - x
    go false t = let q = run_through-off p n k t in omega arith
    go true t = on S
      where
        r₂ : ahead p k (n - k) ≤ e - k
        r₂ = ahead-short p (e - k) k (n - k) (ap p (let z : k + (e - k) ≡ e = omega arith in z) ∙ f)

        on : Starts p x → run_through p n k ≤ e - x
        on (clear z) =
            let c : x + (k - x) ≡ k = omega arith in
            let r₁ : behind p k ≤ k - x = rw c at (behind-short p x (k - x) z) in
            let q = run_through-on p n k t in omega (arith, r₂)
        on (blank g) =
            let c : suc x + (k - suc x) ≡ k = omega (arith, distinct g) in
            let r₁ : behind p k ≤ k - suc x = rw c at (behind-short p (suc x) (k - suc x) (behind-off p x g)) in
            let q = run_through-on p n k t in omega (arith, r₂, distinct g)
          where
            distinct : p x ≡ false → suc x ≤ k
            distinct g = less (dec_le (suc x) k)
              where
                less : Dec (suc x ≤ k) → suc x ≤ k
                less (yes l) = l
                less (no l) = absurd (true≢false (sym t ∙ (ap p (let z : k ≡ x = omega arith in z) ∙ g)))

-- nor between a start x and the end of the line
pub run_through-last : (p : ℕ → Bool) (n x k : ℕ) → Starts p x → p n ≡ false → x ≤ k → k < n → run_through p n k ≤ n - x
run_through-last p n x k S f a b = run_through-between p n x n k S f a (omega arith)

-- Extents by counters, from the end back

-- the run is as long at the next place, where both pass
pub run_through-next : (p : ℕ → Bool) (n x : ℕ) → suc x < n → p x ≡ true → p (suc x) ≡ true → run_through p n x ≡ run_through p n (suc x)
run_through-next p n x l e f =
    let q : n - x ≡ suc (n - suc x) = omega arith in
    let a : ahead p x (n - x) ≡ suc (ahead p (suc x) (n - suc x)) = ap (ahead p x) q ∙ ahead-on p x (n - suc x) e in
    let b = behind-on p x e in
    let c = run_through-on p n x e in
    let d = run_through-on p n (suc x) f in
    omega arith

-- and where the next place does not pass, the counter has all of it
pub run_through-counted : (p : ℕ → Bool) (n x : ℕ) → x < n → p (suc x) ≡ false → run_through p n x ≡ behind p (suc x)
run_through-counted p n x l f = go (p x) refl
  where
    go : (t : Bool) → p x ≡ t → run_through p n x ≡ behind p (suc x)
    go true e =
        let q : n - x ≡ suc (n - suc x) = omega arith in
        let a : ahead p x (n - x) ≡ suc (ahead p (suc x) (n - suc x)) = ap (ahead p x) q ∙ ahead-on p x (n - suc x) e in
        let z = ahead-off p (suc x) (n - suc x) f in
        let b = behind-on p x e in
        let c = run_through-on p n x e in
        omega arith
    go false e = run_through-off p n x e ∙ sym (behind-off p x e)

-- The counter tells where the run that ends before x starts

pub behind-all : (p : ℕ → Bool) (x k : ℕ) → k < x → x ≤ k + behind p x → p k ≡ true
behind-all p zero k l h = absurd (omega arith)
behind-all p (suc x) k l h = go (p x) refl (behind-all p x k)
  where
    go : (t : Bool) → p x ≡ t → (k < x → x ≤ k + behind p x → p k ≡ true) → p k ≡ true
    go false e r = let q = behind-off p x e in absurd (omega arith)
    go true e r = at (dec_lt k x)
      where
        at : Dec (k < x) → p k ≡ true
        at (yes a) = let q = behind-on p x e in r a (omega arith)
        at (no a) = ap p (let z : k ≡ x = omega arith in z) ∙ e

pub behind-stop : (p : ℕ → Bool) (x : ℕ) → behind p x < x → p (x - behind p x - 1) ≡ false
behind-stop p zero l = absurd (omega arith)
behind-stop p (suc x) l = go (p x) refl (behind-stop p x)
  where
    go : (t : Bool) → p x ≡ t → (behind p x < x → p (x - behind p x - 1) ≡ false) → p (suc x - behind p (suc x) - 1) ≡ false
    go false e r = ap p (let q = behind-off p x e in let z : suc x - behind p (suc x) - 1 ≡ x = omega arith in z) ∙ e
    go true e r =
        let q = behind-on p x e in ap p (let z : suc x - behind p (suc x) - 1 ≡ x - behind p x - 1 = omega arith in z) ∙ r (omega arith)

behind-start : (p : ℕ → Bool) (x : ℕ) → behind p (x - behind p x) ≡ 0
behind-start p x = go (dec_lt (behind p x) x)
  where
    go : Dec (behind p x < x) → behind p (x - behind p x) ≡ 0
    go (yes l) =
        let z : suc (x - behind p x - 1) ≡ x - behind p x = omega arith in
        ap (behind p) (sym z) ∙ behind-off p (x - behind p x - 1) (behind-stop p x l)
    go (no l) = let z : x - behind p x ≡ 0 = omega arith in ap (behind p) z ∙ (let q = behind-le p 0 in omega arith)

-- how far is looked does not matter past a place that does not pass
ahead-stop : (p : ℕ → Bool) (j x n k : ℕ) → p (x + j) ≡ false → j ≤ n → j ≤ k → ahead p x n ≡ ahead p x k
ahead-stop p zero x n k e a b =
    let z : p x ≡ false = ap p (let y : x ≡ x + 0 = omega arith in y) ∙ e in
    ahead-off p x n z ∙ sym (ahead-off p x k z)
ahead-stop p (suc j) x zero k e a b = absurd (omega arith)
ahead-stop p (suc j) x (suc n) zero e a b = absurd (omega arith)
ahead-stop p (suc j) x (suc n) (suc k) e a b = go (p x) refl (ahead-stop p j (suc x) n k (ap p (let z : suc x + j ≡ x + suc j = omega arith in z) ∙ e) (omega arith) (omega arith))
  where
    go : (t : Bool) → p x ≡ t → ahead p (suc x) n ≡ ahead p (suc x) k → ahead p x (suc n) ≡ ahead p x (suc k)
    go true f r = ahead-on p x n f ∙ (ap suc r ∙ sym (ahead-on p x k f))
    go false f r = ahead-off p x (suc n) f ∙ sym (ahead-off p x (suc k) f)

-- One place more

pub count_next : (p : ℕ → Bool) (y : ℕ) → behind p (y + 1) ≡ cond (p y) (behind p y + 1) 0
unfolding behind
count_next p y = ap (behind p) (let z : y + 1 ≡ suc y = omega arith in z) ∙ ap (λ k. cond (p y) k 0) (let z : suc (behind p y) ≡ behind p y + 1 = omega arith in z)

module _ (p : ℕ → Bool) (y : ℕ) where
  -- a run that reaches the last place is as long as the counter says
  pub run-reached : (i : ℕ) → i < y + 1 → y + 1 ≤ i + behind p (y + 1) → run_through p (y + 1) i ≡ behind p (y + 1)
  run-reached i a b =
      let l = behind-le p (y + 1) in
      run_through-ends p (y + 1) (y + 1 - behind p (y + 1)) (y + 1) (le_refl (y + 1)) (behind-start p (y + 1)) none (λ k c d. behind-all p (y + 1) k d (omega arith)) i (omega arith) a
      ∙ omega arith
    where
      none : ahead p (y + 1) (y + 1 - (y + 1)) ≡ 0
      none = let q = ahead-le p (y + 1) (y + 1 - (y + 1)) in omega arith

  -- and was one shorter before
  pub run-reached-before : (i : ℕ) → i < y → y + 1 ≤ i + behind p (y + 1) → run_through p y i + 1 ≡ behind p (y + 1)
  run-reached-before i a b =
      let l = behind-le p (y + 1) in
      let e = run_through-ends p y (y + 1 - behind p (y + 1)) y (le_refl y) (behind-start p (y + 1)) none (λ k c d. behind-all p (y + 1) k (omega arith) (omega arith)) i (omega arith) a in
      omega arith
    where
      none : ahead p y (y - y) ≡ 0
      none = let q = ahead-le p y (y - y) in omega arith

  -- any other is as it was
  pub run-apart : (i : ℕ) → i < y → i + behind p (y + 1) < y + 1 → run_through p (y + 1) i ≡ run_through p y i
  run-apart i a b = go (p i) refl
    where
      off : p (i + (y + 1 - behind p (y + 1) - 1 - i)) ≡ false
      off = ap p (let z : i + (y + 1 - behind p (y + 1) - 1 - i) ≡ y + 1 - behind p (y + 1) - 1 = omega arith in z) ∙ behind-stop p (y + 1) (omega arith)

      go : (t : Bool) → p i ≡ t → run_through p (y + 1) i ≡ run_through p y i
      go true e =
          run_through-on p (y + 1) i e
          ∙ (ap (λ k. behind p i + k) (ahead-stop p (y + 1 - behind p (y + 1) - 1 - i) i (y + 1 - i) (y - i) off (omega arith) (omega arith)) ∙ sym (run_through-on p y i e))
      go false e = run_through-off p (y + 1) i e ∙ sym (run_through-off p y i e)

  -- at the last place it is the counter itself
  pub run-last : run_through p (y + 1) y ≡ behind p (y + 1)
  run-last = go (dec_lt 0 (behind p (y + 1)))
    where
      go : Dec (0 < behind p (y + 1)) → run_through p (y + 1) y ≡ behind p (y + 1)
      go (yes l) = run-reached y (omega arith) (omega arith)
      go (no l) =
          let z : behind p (y + 1) ≡ 0 = omega arith in
          run_through-off p (y + 1) y (ap p (let x : y ≡ y + 1 - behind p (y + 1) - 1 = omega arith in x) ∙ behind-stop p (y + 1) (omega arith)) ∙ sym z

-- j places from s on pass, and none just before s

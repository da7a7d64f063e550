-- A naming of the runs by their components gives the components of the dots.
use mathlib.Core.Path.{◌≡◌, refl, sym, ap, ◌∙◌, subst}
use mathlib.Core.List.{List}
use mathlib.Core.Bool.{Bool, true, false, cond, ◌&&◌}
use mathlib.Core.Logic.{⊎_elim}
use Prim.Native.Nat.{ℕ, zero, suc, ◌+◌, ◌-◌, ◌/◌, ◌≤◌, ◌<◌}
use native.Mathlib.Nat.{le_refl, le_trans}
use native.Mathlib.Decide.{ℕ_discrete, dec_lt, dec_le}
use native.Mathlib.Omega.{arith}
use borrow.Author.Tests.{lt-ltb, le-ltb, eq-eqb, ne_eqb}
use lib.Dec.{eqb, ltb}
use Rattle.memory.specs.rules.Lists.{count_if}
use Rattle.union_find.specs.rules.Classes.{first_of, firsts}
use Rattle.union_find.specs.rules.Chains.{Chain, here, rise, fall, Firsts}
use Rattle.union_find.specs.stages.Forests.{Named}
use Rattle.memory.specs.rules.Masks.{is_ink}
use Rattle.labelling.specs.rules.Labels.{touches, is_first, label_at}
use Rattle.labelling.specs.stages.InkRuns.{Runs, touch_runs, is_root}
use Rattle.union_find.proofs.FirstLaws.{chain-trans, chain-sym, firsts-right, firsts-unique}
use Rattle.labelling.proofs.TouchLaws.{Near, near_of, near-to, near-cases, near-beside, run-of, starts-rise, beside_same, touch-up, touch-dots}

-- from a naming of the runs to a naming of the first n dots: the first dot of the run that names; a blank dot itself
unfoldable pub first_by_runs : List ℕ → ℕ → (ℕ → ℕ) → (ℕ → ℕ) → (ℕ → ℕ) → ℕ → ℕ
first_by_runs m n start run_at rep i = cond (ltb i n && is_ink m i) (start (rep (run_at i))) i

-- Named is Firsts, but for the numbers from n on
pub named-firsts : (r : ℕ → ℕ → Bool) (n : ℕ) (f : ℕ → ℕ) → Named r n f → (i : ℕ) → i < n → f i ≡ first_of (firsts r n) i
named-firsts r n f N i l = sym (in-range i l) ∙ firsts-unique (λ j. cond (ltb j n) (f j) j) (first_of (firsts r n)) F (firsts-right r n) i
  where
    in-range : (j : ℕ) → j < n → cond (ltb j n) (f j) j ≡ f j
    in-range j l = rw (lt-ltb j n l)

    past : (j : ℕ) → n ≤ j → cond (ltb j n) (f j) j ≡ j
    past j l = rw (le-ltb j n l)

    low : (j : ℕ) → Dec (j < n) → cond (ltb j n) (f j) j ≤ j
    low j (yes l) = rw (in-range j l) (N.low j l)
    low j (no l) = rw (past j (omega arith)) (le_refl j)

    sound : (j : ℕ) → Dec (j < n) → Chain r n j (cond (ltb j n) (f j) j)
    sound j (yes l) = rw (in-range j l) (N.sound j l)
    sound j (no l) = rw (past j (omega arith)) here

    F : Firsts r n (λ j. cond (ltb j n) (f j) j)
    F = record { low = λ j. low j (dec_lt j n); sound = λ j. sound j (dec_lt j n); full = λ a b l k t. in-range a (omega arith) ∙ (N.full a b l k t ∙ sym (in-range b k)) }

-- so the definition itself is one such naming
pub firsts-named : (r : ℕ → ℕ → Bool) (n : ℕ) → Named r n (first_of (firsts r n))
firsts-named r n = let F = firsts-right r n in record { low = λ i _. F.low i; sound = λ i _. F.sound i; full = F.full }

-- counting

none_more : (p : ℕ → Bool) (a b : ℕ) → a ≤ b → ((i : ℕ) → a ≤ i → i < b → p i ≡ false) → count_if p b ≡ count_if p a
unfolding count_if
none_more p a zero l h = ap (count_if p) (let e : 0 ≡ a = omega arith in e)
none_more p a (suc b) l h = go (none_more p a b) (ℕ_discrete a (suc b))
  where
    go : (a ≤ b → ((i : ℕ) → a ≤ i → i < b → p i ≡ false) → count_if p b ≡ count_if p a) → Dec (a ≡ suc b) → count_if p b + cond (p b) 1 0 ≡ count_if p a
    go ih (yes e) = ap (count_if p) (sym e)
    go ih (no ne) =
        let z : p b ≡ false = h b (omega arith) (le_refl (suc b)) in
        let e = ih (omega arith) (λ i c d. h i c (omega arith)) in
        rw z (omega arith)

module _ (w : ℕ) (m : List ℕ) (hw : 0 < w) (n c : ℕ) (start end run_of : ℕ → ℕ) (R : Runs w m n c start end run_of) where
  -- from a dot of a run to its first
  run_down : (k d : ℕ) → k < c → start k + d < end k → Chain (touches w m) n (start k + d) (start k)
  run_down k zero lk l = subst (λ z. Chain (touches w m) n z (start k)) (let e : start k ≡ start k + 0 = omega arith in e) here
  run_down k (suc d) lk l =
      let e : suc (start k + d) ≡ start k + suc d = omega arith in
      let l₂ : start k + d < end k = omega arith in
      let l₃ : suc (start k + d) < end k = omega arith in
      let i₁ = R.ink k (start k + d) lk (omega arith) l₂ in
      let i₂ = R.ink k (suc (start k + d)) lk (omega arith) l₃ in
      let r₁ = R.row k (start k + d) lk (omega arith) l₂ in
      let r₂ = R.row k (suc (start k + d)) lk (omega arith) l₃ in
      let t : touches w m (start k + d) (suc (start k + d)) ≡ true = near-to w m _ _ (near-beside w m hw (start k + d) i₁ i₂ (r₁ ∙ sym r₂)) in
      let b = R.within k lk in
      subst (λ z. Chain (touches w m) n z (start k)) e (fall (le_refl (suc (start k + d))) (omega arith) t (run_down k d lk l₂))

  pub run-chain : (k i : ℕ) → k < c → start k ≤ i → i < end k → Chain (touches w m) n i (start k)
  run-chain k i lk l₁ l₂ =
      let e : start k + (i - start k) ≡ i = omega arith in
      subst (λ z. Chain (touches w m) n z (start k)) e (run_down k (i - start k) lk (omega arith))

  -- a chain of runs is one of dots
  pub chain-dots : {a b : ℕ} → Chain (touch_runs w start end) c a b → Chain (touches w m) n (start a) (start b)
  chain-dots here = here
  chain-dots (rise {a} {b} l k t ch) =
      let D = touch-dots w m hw n c start end run_of R a b l k t in
      let wi = R.within b k in
      let ub = D.5 in
      chain-trans (chain-sym (run-chain a D.0 (omega arith) D.2 D.3))
      (rise D.6 (omega arith) D.7
      (chain-trans (run-chain b D.1 k D.4 ub) (chain-dots ch)))
  chain-dots (fall {a} {b} l k t ch) =
      let D = touch-dots w m hw n c start end run_of R b a l k t in
      let wi = R.within a k in
      let ub = D.5 in
      chain-trans (chain-sym (run-chain a D.1 k D.4 ub))
      (fall D.6 (omega arith) D.7
      (chain-trans (run-chain b D.0 (omega arith) D.2 D.3) (chain-dots ch)))

  module _ (rep : ℕ → ℕ) (N : Named (touch_runs w start end) c rep) where
    by-ink : (i : ℕ) → i < n → is_ink m i ≡ true → first_by_runs m n start run_of rep i ≡ start (rep (run_of i))
    unfolding first_by_runs
    by-ink i l e = rw (lt-ltb i n l, e)

    by-blank : (i : ℕ) → is_ink m i ≡ false → first_by_runs m n start run_of rep i ≡ i
    unfolding first_by_runs
    by-blank i e = go (ltb i n)
      where
        go : (t : Bool) → cond (t && is_ink m i) (start (rep (run_of i))) i ≡ i
        go true = rw e
        go false = refl

    by-past : (i : ℕ) → n ≤ i → first_by_runs m n start run_of rep i ≡ i
    unfolding first_by_runs
    by-past i l = rw (le-ltb i n l)

    -- a case for each kind of dot
    dot-case : (P : ℕ → Type 0) (i : ℕ) → (i < n → is_ink m i ≡ true → P (start (rep (run_of i)))) → P i → P (first_by_runs m n start run_of rep i)
    dot-case P i f g = go (dec_lt i n) (is_ink m i) refl
      where
        go : Dec (i < n) → (t : Bool) → is_ink m i ≡ t → P (first_by_runs m n start run_of rep i)
        go (yes l) true e = rw (by-ink i l e) (f l e)
        go (yes l) false e = rw (by-blank i e) g
        go (no l) t e = rw (by-past i (omega arith)) g

    rep-lt : (k : ℕ) → k < c → rep k < c
    rep-lt k l = let h = N.low k l in omega arith

    pub by_runs : Firsts (touches w m) n (first_by_runs m n start run_of rep)
    by_runs = record { low = low; sound = sound; full = full }
      where
        low : (i : ℕ) → first_by_runs m n start run_of rep i ≤ i
        low i = dot-case (λ z. z ≤ i) i (λ l e. le_trans (starts-rise w m hw n c start end run_of R (rep (run_of i)) (run_of i) (N.low (run_of i) (R.has i l e)) (R.has i l e)) (R.from i l e)) (le_refl i)

        sound : (i : ℕ) → Chain (touches w m) n i (first_by_runs m n start run_of rep i)
        sound i = dot-case (λ z. Chain (touches w m) n i z) i (λ l e. chain-trans (run-chain (run_of i) i (R.has i l e) (R.from i l e) (R.upto i l e)) (chain-dots (N.sound (run_of i) (R.has i l e)))) here

        full : (a b : ℕ) → a < b → b < n → touches w m a b ≡ true → first_by_runs m n start run_of rep a ≡ first_by_runs m n start run_of rep b
        full a b l lb t = by-ink a la T.ink-a ∙ (ap start (⊎_elim same next (near-cases w m hw a b l T)) ∙ sym (by-ink b lb T.ink-b))
          where
            T : Near w m a b
            T = near_of w m a b t

            la : a < n
            la = omega arith

            same : (b ≡ suc a) × (a / w ≡ b / w) → rep (run_of a) ≡ rep (run_of b)
            same (e, r) =
                ap rep (beside_same w m hw n c start end run_of R a (subst (λ z. z < n) e lb) T.ink-a (subst (λ z. is_ink m z ≡ true) e T.ink-b) (r ∙ ap (λ z. z / w) e) ∙ ap run_of (sym e))

            next : (a / w + 1 ≡ b / w) × (a + w ≤ b + 1) × (b ≤ a + w + 1) → rep (run_of a) ≡ rep (run_of b)
            next (e, l₁, l₂) =
                let U = touch-up w m hw n c start end run_of R a b lb T.ink-a T.ink-b e l₁ l₂ l in
                N.full (run_of a) (run_of b) U.0 (R.has b lb T.ink-b) U.1

    -- the first dot of the component is the first of the run that names
    pub by-runs-firsts : (i : ℕ) → first_by_runs m n start run_of rep i ≡ first_of (firsts (touches w m) n) i
    by-runs-firsts = firsts-unique (first_by_runs m n start run_of rep) (first_of (firsts (touches w m) n)) by_runs (firsts-right (touches w m) n)

    -- Labels

    p-start : (k : ℕ) → k < c → is_first m (firsts (touches w m) n) (start k) ≡ is_root rep k
    unfolding is_first is_root
    p-start k lk =
        let s = R.some k lk in
        let wi = R.within k lk in
        let i : is_ink m (start k) ≡ true = R.ink k (start k) lk (le_refl (start k)) s in
        let e : first_of (firsts (touches w m) n) (start k) ≡ start (rep k) = sym (by-runs-firsts (start k)) ∙ (by-ink (start k) (omega arith) i ∙ ap (λ z. start (rep z)) (run-of w m hw n c start end run_of R k (start k) lk (le_refl (start k)) s)) in
        rw (i, e) (go (ℕ_discrete (rep k) k))
      where
        go : Dec (rep k ≡ k) → eqb (start (rep k)) (start k) ≡ eqb (rep k) k
        go (yes q) = eq-eqb (start (rep k)) (start k) (ap start q) ∙ sym (eq-eqb (rep k) k q)
        go (no q) =
            ne_eqb (start (rep k)) (start k) (λ z. let h = N.low k lk in let h₂ = R.rising (rep k) k (omega arith) lk in let h₃ = R.some (rep k) (rep-lt k lk) in omega arith)
            ∙ sym (ne_eqb (rep k) k q)

    p-other : (i : ℕ) → i < n → ((k : ℕ) → k < c → start k ≡ i → ⊥) → is_first m (firsts (touches w m) n) i ≡ false
    unfolding is_first
    p-other i l h = go (is_ink m i) refl
      where
        go : (t : Bool) → is_ink m i ≡ t → (t && eqb (first_of (firsts (touches w m) n) i) i) ≡ false
        go false e = refl
        go true e =
            ne_eqb (first_of (firsts (touches w m) n) i) i
            (λ z.
            let k = rep (run_of i) in
            h k (rep-lt (run_of i) (R.has i l e)) (sym (by-ink i l e) ∙ (by-runs-firsts i ∙ z)))

    -- first dots before x are as many as runs before it that name themselves
    pub count-before : (k x : ℕ) → k ≤ c → x ≤ n → ((j : ℕ) → j < k → start j < x) → ((j : ℕ) → k ≤ j → j < c → x ≤ start j) → count_if (is_first m (firsts (touches w m) n)) x ≡ count_if (is_root rep) k
    unfolding count_if
    count-before zero x lk lx h₁ h₂ = none_more (is_first m (firsts (touches w m) n)) 0 x (omega arith) (λ i a b. p-other i (omega arith) (λ k l e. let z = h₂ k (omega arith) l in omega arith))
    count-before (suc k) x lk lx h₁ h₂ =
        let a : start k < x = h₁ k (le_refl (suc k)) in
        let e₁ = none_more (is_first m (firsts (touches w m) n)) (suc (start k)) x a (λ i a b. p-other i (omega arith) (between i a b)) in
        let e₂ = count-before k (start k) (omega arith) (omega arith) (λ j l. let z = R.rising j k l lk in let s = R.some j (omega arith) in omega arith) (λ j l l₂. starts-rise w m hw n c start end run_of R k j l l₂) in
        e₁ ∙ rw (p-start k lk, e₂) refl
      where
        between : (i : ℕ) → start k < i → i < x → (j : ℕ) → j < c → start j ≡ i → ⊥
        between i a b j lj e = go (dec_le j k)
          where
            go : Dec (j ≤ k) → ⊥
            go (yes q) = let z = starts-rise w m hw n c start end run_of R j k q lk in omega arith
            go (no q) = let z = h₂ j (omega arith) lj in omega arith

    -- as many components as runs that name themselves
    pub count-by-runs : count_if (is_first m (firsts (touches w m) n)) n ≡ count_if (is_root rep) c
    count-by-runs = count-before c n (le_refl c) (le_refl n) (λ j l. let s = R.some j l in let wi = R.within j l in omega arith) (λ j a b. absurd (omega arith))

    -- an ink dot's label is the number of its run's component
    pub label-by-runs : (i : ℕ) → i < n → is_ink m i ≡ true → label_at m (firsts (touches w m) n) i ≡ count_if (is_root rep) (suc (rep (run_of i)))
    unfolding label_at
    label-by-runs i l e =
        let k = rep (run_of i) in
        let lk : k < c = rep-lt (run_of i) (R.has i l e) in
        let s = R.some k lk in
        let wi = R.within k lk in
        rw (e, sym (by-runs-firsts i), by-ink i l e)
        (count-before (suc k) (suc (start k)) lk (omega arith)
        (λ j h. let z = starts-rise w m hw n c start end run_of R j k (omega arith) lk in omega arith)
        (λ j h₁ h₂. let z = R.rising k j h₁ h₂ in omega arith))

    pub label-blank : (i : ℕ) → is_ink m i ≡ false → label_at m (firsts (touches w m) n) i ≡ 0
    unfolding label_at
    label-blank i e = rw e

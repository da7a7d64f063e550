-- Smoothing, as a walk along the row that remembers the last place that passed sees it.
use mathlib.Core.Path.{◌≡◌, refl, sym, ap, ◌∙◌}
use mathlib.Core.Bool.{Bool, true, false, ◌&&◌, not}
use Prim.Native.Nat.{ℕ, suc, ◌+◌, ◌-◌, ◌≤◌, ◌<◌}
use native.Mathlib.Nat.{le_refl}
use native.Mathlib.Omega.{arith}
use borrow.Author.Tests.{lt-ltb, le-ltb}
use lib.Dec.{leb, ltb}
use Rattle.extents.specs.rules.Extents.{behind, ahead, run_through}
use Rattle.smoothing.specs.rules.Smoothing.{joined}
use Rattle.extents.proofs.RunLaws.{behind-off, ahead-off, run_through-ends, behind-run, ahead-run}

and-true : (x : Bool) → (x && true) ≡ x
and-true true = refl
and-true false = refl

and-false : (x : Bool) → (x && false) ≡ false
and-false true = refl
and-false false = refl

module _ (p : ℕ → Bool) (n gap : ℕ) where
  pub joined-on : (x : ℕ) → p x ≡ true → joined p n gap x ≡ true
  unfolding joined
  joined-on x e = rw e

  -- between two places that pass, with none between
  pub joined-between : (a b : ℕ) → b < n → p a ≡ true → p b ≡ true → ((k : ℕ) → a < k → k < b → p k ≡ false) → (x : ℕ) → a < x → x < b → joined p n gap x ≡ leb (b - suc a) gap
  unfolding joined
  joined-between a b l ea eb h x lx ly =
      let off : (k : ℕ) → a < k → k < b → not (p k) ≡ true = λ k c d. ap not (h k c d) in
      let z₁ : behind (λ k. not (p k)) (suc a) ≡ 0 = behind-off (λ k. not (p k)) a (ap not ea) in
      let z₂ : ahead (λ k. not (p k)) b (n - b) ≡ 0 = ahead-off (λ k. not (p k)) b (n - b) (ap not eb) in
      let r : run_through (λ k. not (p k)) n x ≡ b - suc a = run_through-ends (λ k. not (p k)) n (suc a) b (omega arith) z₁ z₂ off x lx ly in
      let e₁ : suc a + (x - suc a) ≡ x = omega arith in
      let c : behind (λ k. not (p k)) x ≡ x - suc a = ap (behind (λ k. not (p k))) (sym e₁) ∙ behind-run (λ k. not (p k)) (suc a) (x - suc a) z₁ (λ k u v. off k u (omega arith)) in
      let e₂ : b - x + (n - b) ≡ n - x = omega arith in
      let e₃ : x + (b - x) ≡ b = omega arith in
      let d : ahead (λ k. not (p k)) x (n - x) ≡ b - x = ap (ahead (λ k. not (p k)) x) (sym e₂) ∙ ahead-run (λ k. not (p k)) x (b - x) (n - b) (ap (λ k. ahead (λ k. not (p k)) k (n - b)) e₃ ∙ z₂) (λ k u v. off k (omega arith) (omega arith)) in
      rw (h x lx ly, r, lt-ltb (behind (λ k. not (p k)) x) x (omega (arith, c)), lt-ltb (x + ahead (λ k. not (p k)) x (n - x)) n (omega (arith, d))) (and-true (leb (b - suc a) gap && true) ∙ and-true (leb (b - suc a) gap))

  -- before the first that passes: the row's end is not filled
  pub joined-before : (x : ℕ) → ((k : ℕ) → k ≤ x → p k ≡ false) → joined p n gap x ≡ false
  unfolding joined behind
  joined-before x h =
      let c : behind (λ k. not (p k)) x ≡ x = ap (behind (λ k. not (p k))) (let e : x ≡ 0 + x = omega arith in e) ∙ behind-run (λ k. not (p k)) 0 x refl (λ k u v. ap not (h k (omega arith))) in
      rw (h x (le_refl x), le-ltb (behind (λ k. not (p k)) x) x (omega (arith, c))) (ap (λ t. t && ltb (x + ahead (λ k. not (p k)) x (n - x)) n) (and-false (leb (run_through (λ k. not (p k)) n x) gap)))

  -- after the last
  pub joined-after : (x : ℕ) → x < n → ((k : ℕ) → x ≤ k → k < n → p k ≡ false) → joined p n gap x ≡ false
  unfolding joined ahead
  joined-after x l h =
      let e : n - x + 0 ≡ n - x = omega arith in
      let d : ahead (λ k. not (p k)) x (n - x) ≡ n - x = ap (ahead (λ k. not (p k)) x) (sym e) ∙ ahead-run (λ k. not (p k)) x (n - x) 0 refl (λ k u v. ap not (h k u (omega arith))) in
      rw (h x (le_refl x) l, le-ltb (x + ahead (λ k. not (p k)) x (n - x)) n (omega (arith, d))) (and-false (leb (run_through (λ k. not (p k)) n x) gap && ltb (behind (λ k. not (p k)) x) x))

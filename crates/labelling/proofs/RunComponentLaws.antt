-- The records of the components, taken in run by run.
use mathlib.Core.Path.{◌≡◌, refl, sym, ap, ◌∙◌, subst}
use mathlib.Core.List.{List}
use mathlib.Core.Bool.{cond}
use Prim.Native.Nat.{ℕ, zero, suc, ◌+◌, ◌-◌, ◌*◌, ◌/◌, ◌%◌, ◌≤◌, ◌<◌}
use native.Mathlib.Nat.{le_refl}
use native.Mathlib.Decide.{ℕ_discrete}
use native.Mathlib.Omega.{arith}
use borrow.Author.Tests.{eq-eqb, ne_eqb}
use lib.ListN.{get_or}
use lib.Dec.{eqb}
use Rattle.memory.specs.rules.Lists.{table, count_if}
use Rattle.union_find.specs.stages.Forests.{Named}
use Rattle.labelling.specs.rules.Components.{absorbed}
use Rattle.labelling.specs.rules.Labels.{component_to, labelling}
use Rattle.labelling.specs.stages.InkRuns.{turns, run_count, run_of, start_of, end_of, Runs, touch_runs, is_root, component_number, run_label, absorb_dots, component_runs}
use Rattle.memory.proofs.TableLaws.{get_or-table, table-ext}
use Rattle.labelling.proofs.RunLabelLaws.{paint-run, paint-gap, turns-runs, labelling-runs}
use Rattle.labelling.proofs.TouchLaws.{starts-rise}

component-none : (w : ℕ) (l : List ℕ) (q a b : ℕ) → a ≤ b → ((i : ℕ) → a ≤ i → i < b → get_or l i 0 ≡ q → ⊥) → component_to w l q b ≡ component_to w l q a
unfolding component_to
component-none w l q a zero le h = ap (component_to w l q) (let e : 0 ≡ a = omega arith in e)
component-none w l q a (suc b) le h = go (component-none w l q a b) (ℕ_discrete a (suc b))
  where
    go : (a ≤ b → ((i : ℕ) → a ≤ i → i < b → get_or l i 0 ≡ q → ⊥) → component_to w l q b ≡ component_to w l q a) → Dec (a ≡ suc b) → cond (eqb (get_or l b 0) q) (absorbed (component_to w l q b) (b % w) (b / w)) (component_to w l q b) ≡ component_to w l q a
    go ih (yes e) = ap (component_to w l q) (sym e)
    go ih (no ne) = rw (ne_eqb (get_or l b 0) q (h b (omega arith) (le_refl (suc b)))) (ih (omega arith) (λ i c d. h i c (omega arith)))

component-all : (w : ℕ) (l : List ℕ) (q s d : ℕ) → ((i : ℕ) → s ≤ i → i < s + d → get_or l i 0 ≡ q) → component_to w l q (s + d) ≡ absorb_dots w s d (component_to w l q s)
unfolding component_to absorb_dots
component-all w l q s zero h = ap (component_to w l q) (let e : s + 0 ≡ s = omega arith in e)
component-all w l q s (suc d) h =
    ap (component_to w l q) (let e : s + suc d ≡ suc (s + d) = omega arith in e)
    ∙ rw (eq-eqb (get_or l (s + d) 0) q (h (s + d) (omega arith) (omega arith))) (ap (λ p. absorbed p ((s + d) % w) ((s + d) / w)) (component-all w l q s d (λ i a b. h i a (omega arith))))

module _ (w : ℕ) (m : List ℕ) (hw : 0 < w) (n c : ℕ) (start end : ℕ → ℕ) (R : Runs w m n c start end (run_of w m)) (rep : ℕ → ℕ) (q : ℕ) where
  at-run : (k i : ℕ) → k < c → start k ≤ i → i < end k → get_or (table (run_label w m rep) n) i 0 ≡ component_number rep k
  at-run k i lk l₁ l₂ = get_or-table (run_label w m rep) n i 0 (let h = R.within k lk in omega arith) ∙ paint-run w m hw n c start end R rep k i lk l₁ l₂

  -- before x stand the first k runs
  pub components-before : (k x : ℕ) → k ≤ c → x ≤ n → ((j : ℕ) → j < k → end j ≤ x) → ((j : ℕ) → k ≤ j → j < c → x ≤ start j) → component_to w (table (run_label w m rep) n) (suc q) x ≡ component_runs w start end rep (suc q) k
  unfolding component_runs component_to
  components-before zero x lk lx h₁ h₂ =
      component-none w (table (run_label w m rep) n) (suc q) 0 x (omega arith)
      (λ i a b z.
      let e = get_or-table (run_label w m rep) n i 0 (omega arith) in
      let g = paint-gap w m hw n c start end R rep 0 i lk (omega arith) (λ l. let y = h₂ 0 (le_refl 0) l in omega arith) (λ j y. absurd (omega arith)) in
      omega arith)
  components-before (suc k) x lk lx h₁ h₂ =
      let s = R.some k lk in
      let wi = R.within k lk in
      let le : end k ≤ x = h₁ k (le_refl (suc k)) in
      let e₁ = component-none w (table (run_label w m rep) n) (suc q) (end k) x le (gap le) in
      let ih = components-before k (start k) (omega arith) (omega arith) (λ j l. R.rising j k l lk) (λ j l l₂. starts-rise w m hw n c start end (run_of w m) R k j l l₂) in
      e₁ ∙ run s ih (ℕ_discrete (component_number rep k) (suc q))
    where
      gap : end k ≤ x → (i : ℕ) → end k ≤ i → i < x → get_or (table (run_label w m rep) n) i 0 ≡ suc q → ⊥
      gap le i a b z =
          let e = get_or-table (run_label w m rep) n i 0 (omega arith) in
          let g = paint-gap w m hw n c start end R rep (suc k) i lk (omega arith) (λ l. let y = h₂ (suc k) (le_refl (suc k)) l in omega arith) (λ j y. subst (λ z. end z ≤ i) (let t : k ≡ j = omega arith in t) a) in
          omega arith

      run : start k < end k → component_to w (table (run_label w m rep) n) (suc q) (start k) ≡ component_runs w start end rep (suc q) k → Dec (component_number rep k ≡ suc q)
          → component_to w (table (run_label w m rep) n) (suc q) (end k)
          ≡ cond (eqb (component_number rep k) (suc q)) (absorb_dots w (start k) (end k - start k) (component_runs w start end rep (suc q) k)) (component_runs w start end rep (suc q) k)
      run s ih (yes e) =
          ap (component_to w (table (run_label w m rep) n) (suc q)) (let t : end k ≡ start k + (end k - start k) = omega arith in t)
          ∙ (component-all w (table (run_label w m rep) n) (suc q) (start k) (end k - start k) (λ i a b. at-run k i lk a (omega arith) ∙ e)
          ∙ (ap (absorb_dots w (start k) (end k - start k)) ih ∙ rw (eq-eqb (component_number rep k) (suc q) e) refl))
      run s ih (no ne) =
          component-none w (table (run_label w m rep) n) (suc q) (start k) (end k) (omega arith) (λ i a b z. ne (sym (at-run k i lk a b) ∙ z))
          ∙ (ih ∙ rw (ne_eqb (component_number rep k) (suc q) ne) refl)

  pub components-all : component_to w (table (run_label w m rep) n) (suc q) n ≡ component_runs w start end rep (suc q) c
  components-all = components-before c n (le_refl c) (le_refl n) (λ j l. R.within j l) (λ j a b. absurd (omega arith))

-- the whole labelling by runs, for any naming of the runs that a union-find has found
pub labelling-by-runs : (w h : ℕ) (m : List ℕ) → 0 < w → (rep : ℕ → ℕ)
    → Named (touch_runs w (start_of (turns w m (w * h))) (end_of (turns w m (w * h)) 0)) (run_count w m (w * h)) rep
    → labelling w h m
    ≡ record {
      labels = table (run_label w m rep) (w * h);
      components = table (λ k. component_runs w (start_of (turns w m (w * h))) (end_of (turns w m (w * h)) 0) rep (suc k) (run_count w m (w * h))) (count_if (is_root rep) (run_count w m (w * h)));
    }
labelling-by-runs w h m hw rep N =
    labelling-runs w h m hw rep N
    ∙ (let e = table-ext (λ k. component_to w (table (run_label w m rep) (w * h)) (suc k) (w * h)) (λ k. component_runs w (start_of (turns w m (w * h))) (end_of (turns w m (w * h)) 0) rep (suc k) (run_count w m (w * h))) (count_if (is_root rep) (run_count w m (w * h))) (λ k l. components-all w m hw (w * h) (run_count w m (w * h)) (start_of (turns w m (w * h))) (end_of (turns w m (w * h)) 0) (turns-runs w h m hw) rep k) in
    λ i. record { labels = table (run_label w m rep) (w * h); components = e i })

-- The labelling, by runs: what code that scans, links and paints runs is to rest on.
use mathlib.Core.Path.{◌≡◌, refl, sym, ap}
use mathlib.Core.List.{List}
use mathlib.Core.Bool.{Bool, true, false, cond}
use Prim.Native.Nat.{ℕ, zero, suc, ◌+◌, ◌-◌, ◌*◌, ◌%◌, ◌≤◌, ◌<◌}
use native.Mathlib.Nat.{mul-mod_right}
use native.Mathlib.Decide.{ℕ_discrete, dec_lt}
use native.Mathlib.Omega.{arith}
use borrow.Author.Tests.{eq-eqb, ne_eqb}
use lib.ListN.{length}
use lib.Dec.{eqb}
use Rattle.memory.specs.rules.Lists.{count_if, table}
use Rattle.union_find.specs.rules.Classes.{firsts}
use Rattle.union_find.specs.stages.Forests.{Named}
use Rattle.memory.specs.rules.Masks.{is_ink}
use Rattle.labelling.specs.rules.Labels.{touches, is_first, label_at, component_to, labelling}
use Rattle.labelling.specs.stages.InkRuns.{ink_before, turns, opens_run, run_count, run_of, start_of, end_of, Runs, touch_runs, is_root, component_number, run_label}
use Rattle.memory.proofs.TableLaws.{table-ext}
use Rattle.memory.proofs.PlaceLaws.{count_low}
use Rattle.labelling.proofs.TouchLaws.{run-of, starts-rise}
use Rattle.labelling.proofs.TransferLaws.{count-by-runs, label-by-runs, label-blank}
use Rattle.labelling.proofs.TurnLaws.{bit, any-default, runs-ext, scanned}

-- no more runs than dots
pub runs-low : (w : ℕ) (m : List ℕ) (n : ℕ) → run_count w m n ≤ n
unfolding run_count
runs-low w m n = count_low (opens_run w m) n

-- All dots of a mask are read

pub ink_before-row : (w : ℕ) (m : List ℕ) (n : ℕ) → n % w ≡ 0 → ink_before w m n ≡ false
unfolding ink_before
ink_before-row w m zero e = refl
ink_before-row w m (suc n) e = rw (eq-eqb (suc n % w) 0 e) refl

-- up to the end of a row
module _ (w n : ℕ) (m : List ℕ) (hw : 0 < w) (e : n % w ≡ 0) where
  -- two turns a run
  pub turns-whole : length (turns w m n) ≡ 2 * run_count w m n
  turns-whole = let s = (scanned w m hw n).0 in let z = ap bit (ink_before-row w m n e) in omega arith

  pub runs-whole : Runs w m n (run_count w m n) (start_of (turns w m n)) (end_of (turns w m n) 0) (run_of w m)
  runs-whole =
      let T = turns w m n in
      let e = turns-whole in
      runs-ext w m n (run_count w m n) (start_of T) (end_of T n) (start_of T) (end_of T 0) (run_of w m) (scanned w m hw n).1 (λ k l. refl) (λ k l. any-default T (2 * k + 1) 0 n (omega arith))

module _ (w h : ℕ) (m : List ℕ) (hw : 0 < w) where
  pub turns-even : length (turns w m (w * h)) ≡ 2 * run_count w m (w * h)
  turns-even = turns-whole w (w * h) m hw (mul-mod_right w h)

  pub turns-runs : Runs w m (w * h) (run_count w m (w * h)) (start_of (turns w m (w * h))) (end_of (turns w m (w * h)) 0) (run_of w m)
  turns-runs = runs-whole w (w * h) m hw (mul-mod_right w h)

  -- the labelling, for any naming of the runs that a union-find has found
  module _ (rep : ℕ → ℕ) (N : Named (touch_runs w (start_of (turns w m (w * h))) (end_of (turns w m (w * h)) 0)) (run_count w m (w * h)) rep) where
    pub label-run : (i : ℕ) → i < w * h → label_at m (firsts (touches w m) (w * h)) i ≡ run_label w m rep i
    unfolding run_label component_number
    label-run i l = go (is_ink m i) refl
      where
        T : List ℕ
        T = turns w m (w * h)

        go : (t : Bool) → is_ink m i ≡ t → label_at m (firsts (touches w m) (w * h)) i ≡ cond t (count_if (is_root rep) (suc (rep (run_of w m i)))) 0
        go true e = label-by-runs w m hw (w * h) (run_count w m (w * h)) (start_of (turns w m (w * h))) (end_of (turns w m (w * h)) 0) (run_of w m) turns-runs rep N i l e
        go false e = label-blank w m hw (w * h) (run_count w m (w * h)) (start_of (turns w m (w * h))) (end_of (turns w m (w * h)) 0) (run_of w m) turns-runs rep N i e

    pub count_runs : count_if (is_first m (firsts (touches w m) (w * h))) (w * h) ≡ count_if (is_root rep) (run_count w m (w * h))
    count_runs = count-by-runs w m hw (w * h) (run_count w m (w * h)) (start_of (turns w m (w * h))) (end_of (turns w m (w * h)) 0) (run_of w m) turns-runs rep N

    pub labelling-runs : labelling w h m ≡ record { labels = table (run_label w m rep) (w * h); components = table (λ k. component_to w (table (run_label w m rep) (w * h)) (suc k) (w * h)) (count_if (is_root rep) (run_count w m (w * h))) }
    unfolding labelling
    labelling-runs =
        let e = table-ext (label_at m (firsts (touches w m) (w * h))) (run_label w m rep) (w * h) label-run in
        λ i. record { labels = e i; components = table (λ k. component_to w (e i) (suc k) (w * h)) (count_runs i) }

-- Numbers, run by run

pub number-new : (rep : ℕ → ℕ) (k : ℕ) → rep k ≡ k → component_number rep k ≡ count_if (is_root rep) k + 1
unfolding component_number is_root count_if
number-new rep k e = rw (e, e, eq-eqb k k refl) refl

pub number-old : (rep : ℕ → ℕ) (p k : ℕ) → rep p ≡ rep k → component_number rep k ≡ component_number rep p
unfolding component_number
number-old rep p k e = ap (λ z. count_if (is_root rep) (suc z)) (sym e)

-- the count so far, with run k
pub names-new : (rep : ℕ → ℕ) (k : ℕ) → rep k ≡ k → count_if (is_root rep) (suc k) ≡ count_if (is_root rep) k + 1
unfolding is_root count_if
names-new rep k e = rw (eq-eqb (rep k) k e) refl

pub names-old : (rep : ℕ → ℕ) (k : ℕ) → (rep k ≡ k → ⊥) → count_if (is_root rep) (suc k) ≡ count_if (is_root rep) k
unfolding is_root count_if
names-old rep k e = rw (ne_eqb (rep k) k e) (let z : count_if (λ j. eqb (rep j) j) k + 0 ≡ count_if (λ j. eqb (rep j) j) k = omega arith in z)

module _ (w : ℕ) (m : List ℕ) (hw : 0 < w) (n c : ℕ) (start end : ℕ → ℕ) (R : Runs w m n c start end (run_of w m)) where
  -- Painting: the dots of run k have its number, those between runs none

  pub paint-run : (rep : ℕ → ℕ) (k i : ℕ) → k < c → start k ≤ i → i < end k → run_label w m rep i ≡ component_number rep k
  unfolding run_label
  paint-run rep k i lk l₁ l₂ = rw (R.ink k i lk l₁ l₂, run-of w m hw n c start end (run_of w m) R k i lk l₁ l₂) refl

  -- a dot before run k, and not before the end of the run before it, is blank; with k = c, the dots after the last run
  pub gap-blank : (k i : ℕ) → k ≤ c → i < n → (k < c → i < start k) → ((j : ℕ) → suc j ≡ k → end j ≤ i) → is_ink m i ≡ false
  gap-blank k i lk li h₁ h₂ = go (is_ink m i) refl
    where
      go : (t : Bool) → is_ink m i ≡ t → t ≡ false
      go false e = refl
      go true e = absurd (far (dec_lt (run_of w m i) k))
        where
          l : run_of w m i < c
          l = R.has i li e

          far : Dec (run_of w m i < k) → ⊥
          far (yes q) = near (ℕ_discrete (suc (run_of w m i)) k)
            where
              near : Dec (suc (run_of w m i) ≡ k) → ⊥
              near (yes z) = let a = h₂ (run_of w m i) z in let b = R.upto i li e in omega arith
              near (no z) =
                  let a = h₂ (k - 1) (omega arith) in
                  let b = R.rising (run_of w m i) (k - 1) (omega arith) (omega arith) in
                  let d = R.some (k - 1) (omega arith) in
                  let f = R.upto i li e in
                  omega arith
          far (no q) = let a = h₁ (omega (arith, l)) in let b = starts-rise w m hw n c start end (run_of w m) R k (run_of w m i) (omega arith) l in let f = R.from i li e in omega arith

  pub paint-gap : (rep : ℕ → ℕ) (k i : ℕ) → k ≤ c → i < n → (k < c → i < start k) → ((j : ℕ) → suc j ≡ k → end j ≤ i) → run_label w m rep i ≡ 0
  unfolding run_label
  paint-gap rep k i lk li h₁ h₂ = rw (gap-blank k i lk li h₁ h₂) refl

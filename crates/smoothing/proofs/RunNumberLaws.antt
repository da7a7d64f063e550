-- The numbers of the components, run by run: those met so far, and the first dot of one that is met for the first time.
use mathlib.Core.Path.{◌≡◌, refl, sym, ap, ◌∙◌}
use mathlib.Core.List.{List, [], ◌∷◌}
use mathlib.Core.Bool.{Bool, true, false}
use Prim.Native.Nat.{ℕ, zero, suc, ◌+◌, ◌*◌, ◌≤◌, ◌<◌, max}
use native.Mathlib.Nat.{le_refl, not-suc-le-zero}
use native.Mathlib.Decide.{ℕ_discrete, dec_lt}
use native.Mathlib.Omega.{arith}
use borrow.Author.Tests.{eq-eqb, ne_eqb}
use lib.ListN.{get_or, length}
use Rattle.memory.specs.rules.Lists.{table, index_from}
use Rattle.memory.proofs.TableLaws.{get_or-table, length-table}
use Rattle.memory.specs.rules.Masks.{is_ink}
use Rattle.labelling.specs.rules.Labels.{labelling}
use Rattle.labelling.specs.stages.InkRuns.{turns, run_count, run_of, start_of, end_of, Runs, is_root, component_number, run_label}
use Rattle.labelling.specs.stages.Linking.{touching, first_run}
use Rattle.memory.proofs.PlaceLaws.{count-mono, count_yes}
use Rattle.union_find.proofs.FirstLaws.{firsts-right, along}
use Rattle.labelling.proofs.TransferLaws.{firsts-named}
use Rattle.labelling.proofs.TouchLaws.{starts-rise}
use Rattle.labelling.proofs.RunLabelLaws.{turns-runs, labelling-runs, paint-run, number-new, names-new, names-old}
use Rattle.smoothing.specs.rules.Lines.{first_dot}
use Rattle.smoothing.specs.stages.RowRuns.{met_before}

index-from : (d o k : ℕ) (l : List ℕ) (i : ℕ) → i < length l → get_or l i 0 ≡ k → ((a : ℕ) → a < i → get_or l a 0 ≡ k → ⊥) → index_from d o k l ≡ o + i
unfolding index_from
index-from d o k [] i h e ne = absurd (not-suc-le-zero h)
index-from d o k (x ∷ l) zero h e ne = rw (eq-eqb x k e) (let z : o ≡ o + 0 = omega arith in z)
index-from d o k (x ∷ l) (suc i) h e ne =
    rw (ne_eqb x k (ne 0 (omega arith))) (index-from d (suc o) k l i (omega arith) e (λ a b. ne (suc a) (omega arith)) ∙ (let z : suc o + i ≡ o + suc i = omega arith in z))

module _ (w h : ℕ) (m : List ℕ) (hw : 0 < w) where
  abbrev rep : ℕ → ℕ
  rep = first_run w (run_count w m (w * h)) (turns w m (w * h))

  abbrev start_at : ℕ → ℕ
  start_at = start_of (turns w m (w * h))

  abbrev end_at : ℕ → ℕ
  end_at = end_of (turns w m (w * h)) 0

  pub runs-are : Runs w m (w * h) (run_count w m (w * h)) start_at end_at (run_of w m)
  runs-are = turns-runs w h m hw

  labels-are : (labelling w h m).labels ≡ table (run_label w m rep) (w * h)
  labels-are = ap (λ l. l.labels) (labelling-runs w h m hw rep (firsts-named (touching w (turns w m (w * h))) (run_count w m (w * h))))

  -- as many components as are met in the end
  pub met_all : met_before w h m (run_count w m (w * h)) ≡ length (labelling w h m).components
  met_all = sym (ap (λ l. length l.components) (labelling-runs w h m hw rep (firsts-named (touching w (turns w m (w * h))) (run_count w m (w * h)))) ∙ length-table _ _)

  rep-low : (j : ℕ) → rep j ≤ j
  rep-low j = (firsts-right (touching w (turns w m (w * h))) (run_count w m (w * h))).low j

  rep-again : (j : ℕ) → rep (rep j) ≡ rep j
  rep-again j = let F = firsts-right (touching w (turns w m (w * h))) (run_count w m (w * h)) in sym (along F (F.sound j))

  -- Labels

  label-run : (j i : ℕ) → j < run_count w m (w * h) → start_at j ≤ i → i < end_at j → get_or (labelling w h m).labels i 0 ≡ component_number rep j
  label-run j i l a b =
      let wi = runs-are.within j l in
      ap (λ (s : List ℕ). get_or s i 0) labels-are
      ∙ (get_or-table (run_label w m rep) (w * h) i 0 (omega arith) ∙ paint-run w m hw (w * h) (run_count w m (w * h)) start_at end_at runs-are rep j i l a b)

  pub label-blank : (i : ℕ) → i < w * h → is_ink m i ≡ false → get_or (labelling w h m).labels i 0 ≡ 0
  unfolding run_label
  label-blank i l e = ap (λ (s : List ℕ). get_or s i 0) labels-are ∙ (get_or-table (run_label w m rep) (w * h) i 0 l ∙ rw e)

  label-start : (j : ℕ) → j < run_count w m (w * h) → get_or (labelling w h m).labels (start_at j) 0 ≡ component_number rep j
  label-start j l = label-run j (start_at j) l (le_refl (start_at j)) (runs-are.some j l)

  -- the dots of a run share its label
  pub label-shared : (j i : ℕ) → j < run_count w m (w * h) → start_at j ≤ i → i < end_at j → get_or (labelling w h m).labels i 0 ≡ get_or (labelling w h m).labels (start_at j) 0
  label-shared j i l a b = label-run j i l a b ∙ sym (label-start j l)

  -- Numbers

  pub number-some : (j : ℕ) → j < run_count w m (w * h) → 0 < get_or (labelling w h m).labels (start_at j) 0
  unfolding component_number is_root
  number-some j l = let e = label-start j l in let q = count_yes (is_root rep) (rep j) (eq-eqb (rep (rep j)) (rep j) (rep-again j)) in omega arith

  number-low : (i j : ℕ) → i < j → component_number rep i ≤ met_before w h m j
  unfolding component_number
  number-low i j l = let e = rep-low i in count-mono (is_root rep) (suc (rep i)) j (omega arith)

  number-old : (j : ℕ) → (rep j ≡ j → ⊥) → component_number rep j ≤ met_before w h m j
  unfolding component_number
  number-old j ne = let e = rep-low j in count-mono (is_root rep) (suc (rep j)) j (omega arith)

  pub number-high : (j : ℕ) → j < run_count w m (w * h) → get_or (labelling w h m).labels (start_at j) 0 ≤ length (labelling w h m).components
  number-high j l = let e = label-start j l in let q = number-low j (run_count w m (w * h)) l in let r = met_all in omega arith

  -- those met with run j: its number is the next, or was met before
  pub met_next : (j : ℕ) → j < run_count w m (w * h) → met_before w h m (suc j) ≡ max (met_before w h m j) (get_or (labelling w h m).labels (start_at j) 0)
  met_next j l = rw (label-start j l) (go (ℕ_discrete (rep j) j))
    where
      go : Dec (rep j ≡ j) → met_before w h m (suc j) ≡ max (met_before w h m j) (component_number rep j)
      go (yes e) = let a = names-new rep j e in let b = number-new rep j e in omega arith
      go (no ne) = let a = names-old rep j ne in let b = number-old j ne in omega arith

  -- a component that was not met before: its first dot starts run j
  pub first-met : (j : ℕ) → j < run_count w m (w * h) → met_before w h m j < get_or (labelling w h m).labels (start_at j) 0 → first_dot (labelling w h m).labels (get_or (labelling w h m).labels (start_at j) 0) ≡ start_at j
  unfolding first_dot
  first-met j l new =
      let s = runs-are.some j l in
      let wi = runs-are.within j l in
      let n : length (labelling w h m).labels ≡ w * h = ap length labels-are ∙ length-table _ _ in
      index-from 0 0 (get_or (labelling w h m).labels (start_at j) 0) (labelling w h m).labels (start_at j) (omega arith) refl (λ a b e. other a b (is_ink m a) refl e) ∙ (let z : 0 + start_at j ≡ start_at j = omega arith in z)
    where
      other : (a : ℕ) → a < start_at j → (t : Bool) → is_ink m a ≡ t → get_or (labelling w h m).labels a 0 ≡ get_or (labelling w h m).labels (start_at j) 0 → ⊥
      other a b false e q = let s = runs-are.some j l in let wi = runs-are.within j l in let z = label-blank a (omega arith) e in omega arith
      other a b true e q =
          let s = runs-are.some j l in
          let wi = runs-are.within j l in
          let la : a < w * h = omega arith in
          let k = runs-are.has a la e in
          let from = runs-are.from a la e in
          let z = label-run (run_of w m a) a k from (runs-are.upto a la e) in
          go (dec_lt (run_of w m a) j) k from z
        where
          go : Dec (run_of w m a < j) → run_of w m a < run_count w m (w * h) → start_at (run_of w m a) ≤ a → get_or (labelling w h m).labels a 0 ≡ component_number rep (run_of w m a) → ⊥
          go (yes d) k from z = let y = number-low (run_of w m a) j d in omega arith
          go (no d) k from z = let y = starts-rise w m hw (w * h) (run_count w m (w * h)) start_at end_at (run_of w m) runs-are j (run_of w m a) (omega arith) k in omega arith

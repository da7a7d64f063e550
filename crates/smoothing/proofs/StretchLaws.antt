-- Turns over a stretch of dots that are all ink, or all blank.
use mathlib.Core.Path.{◌≡◌, refl, sym, ap, ◌∙◌}
use mathlib.Core.List.{List, [], ◌∷◌, ◌++◌}
use mathlib.Core.Bool.{Bool, true, false, cond, not}
use Prim.Native.Nat.{ℕ, zero, suc, ◌+◌, ◌-◌, ◌*◌, ◌%◌, ◌≤◌, ◌<◌}
use native.Mathlib.Nat.{le_refl}
use native.Mathlib.Decide.{ℕ_discrete}
use native.Mathlib.Omega.{arith}
use borrow.Author.Tests.{eq-eqb, ne_eqb}
use lib.ListN.{length}
use lib.Dec.{eqb}
use Rattle.memory.specs.rules.Masks.{is_ink}
use Rattle.labelling.specs.stages.InkRuns.{ink_before, differ, append_if, turns, run_count}
use Rattle.labelling.proofs.TurnLaws.{bit, scanned, snoc-len}
use Rattle.labelling.proofs.ScanLaws.{turns-inner, ink_before-inner}
use Rattle.smoothing.specs.stages.RowRuns.{ended_turns}

-- the turns of the first i dots, and the start at i of a run that opens there
unfoldable pub begun_turns : ℕ → List ℕ → ℕ → List ℕ
begun_turns w m i = append_if (not (ink_before w m i)) i (turns w m i)

module _ (w : ℕ) (m : List ℕ) where
  -- two turns a run
  pub ended-length : 0 < w → (n : ℕ) → length (ended_turns w m n) ≡ 2 * run_count w m n
  unfolding ended_turns append_if
  ended-length hw n = go (ink_before w m n) (scanned w m hw n).0
    where
      go : (t : Bool) → length (turns w m n) + bit t ≡ 2 * run_count w m n → length (append_if t n (turns w m n)) ≡ 2 * run_count w m n
      go true e = let q = snoc-len (turns w m n) n in omega arith
      go false e = omega arith

  -- Blank dots

  blank-before : (i : ℕ) → is_ink m i ≡ false → ink_before w m (suc i) ≡ false
  unfolding ink_before
  blank-before i e = rw e (go (eqb (suc i % w) 0))
    where
      go : (t : Bool) → cond t false false ≡ false
      go true = refl
      go false = refl

  blank-one : (i : ℕ) → is_ink m i ≡ false → turns w m (suc i) ≡ ended_turns w m i
  unfolding turns ended_turns differ append_if
  blank-one i e = rw e (go (ink_before w m i))
    where
      go : (t : Bool) → append_if (differ t false) i (turns w m i) ≡ append_if t i (turns w m i)
      go true = refl
      go false = refl

  ended-off : (i : ℕ) → ink_before w m i ≡ false → ended_turns w m i ≡ turns w m i
  unfolding ended_turns append_if
  ended-off i e = rw e

  blank-more : (n d : ℕ) → ((i : ℕ) → n ≤ i → i < n + suc d → is_ink m i ≡ false) → (turns w m (n + suc d) ≡ ended_turns w m n) × (ink_before w m (n + suc d) ≡ false)
  blank-more n zero h =
      let e : n + 1 ≡ suc n = omega arith in
      let b = h n (le_refl n) (omega arith) in
      (ap (turns w m) e ∙ blank-one n b, ap (ink_before w m) e ∙ blank-before n b)
  blank-more n (suc d) h =
      let e : n + suc (suc d) ≡ suc (n + suc d) = omega arith in
      let b = h (n + suc d) (omega arith) (omega arith) in
      let ih = blank-more n d (λ i l k. h i l (omega arith)) in
      (ap (turns w m) e ∙ (blank-one (n + suc d) b ∙ (ended-off (n + suc d) ih.1 ∙ ih.0)), ap (ink_before w m) e ∙ blank-before (n + suc d) b)

  -- from n up to s all dots are blank
  pub turns-blank : (n s : ℕ) → n ≤ s → ((i : ℕ) → n ≤ i → i < s → is_ink m i ≡ false) → (n ≡ s → ink_before w m n ≡ false) → (turns w m s ≡ ended_turns w m n) × (ink_before w m s ≡ false)
  turns-blank n s l h o = go (ℕ_discrete n s)
    where
      go : Dec (n ≡ s) → (turns w m s ≡ ended_turns w m n) × (ink_before w m s ≡ false)
      go (yes e) = (sym (ended-off n (o e) ∙ ap (turns w m) e), ap (ink_before w m) (sym e) ∙ o e)
      go (no ne) =
          let e : n + suc (s - suc n) ≡ s = omega arith in
          let r = blank-more n (s - suc n) (λ i a b. h i a (omega arith)) in
          (ap (turns w m) (sym e) ∙ r.0, ap (ink_before w m) (sym e) ∙ r.1)

  -- Ink

  start-ink : (i : ℕ) (t : Bool) → append_if (differ t true) i (turns w m i) ≡ append_if (not t) i (turns w m i)
  unfolding differ
  start-ink i true = refl
  start-ink i false = refl

  pub ink-one : (i : ℕ) → is_ink m i ≡ true → ended_turns w m (suc i) ≡ begun_turns w m i ++ (suc i ∷ [])
  unfolding ended_turns begun_turns append_if ink_before turns
  ink-one i e = go (ℕ_discrete (suc i % w) 0)
    where
      go : Dec (suc i % w ≡ 0) → append_if (ink_before w m (suc i)) (suc i) (turns w m (suc i)) ≡ append_if (not (ink_before w m i)) i (turns w m i) ++ (suc i ∷ [])
      go (yes z) = rw (eq-eqb (suc i % w) 0 z, e) (ap (λ l. l ++ (suc i ∷ [])) (start-ink i (ink_before w m i)))
      go (no z) = rw (ne_eqb (suc i % w) 0 z, e) (ap (λ l. l ++ (suc i ∷ [])) (start-ink i (ink_before w m i)))

  begun-next : (i : ℕ) → is_ink m i ≡ true → (suc i % w ≡ 0 → ⊥) → begun_turns w m (suc i) ≡ begun_turns w m i
  unfolding begun_turns append_if
  begun-next i e z = rw (ink_before-inner w m i z, e) (turns-inner w m i z ∙ rw e (start-ink i (ink_before w m i)))

  -- d dots after i are ink, and none of them starts a row
  begun-still : (i d : ℕ) → ((k : ℕ) → i ≤ k → k < i + d → is_ink m k ≡ true) → ((k : ℕ) → i < k → k ≤ i + d → k % w ≡ 0 → ⊥) → begun_turns w m (i + d) ≡ begun_turns w m i
  begun-still i zero h z = ap (begun_turns w m) (let e : i + 0 ≡ i = omega arith in e)
  begun-still i (suc d) h z =
      let e : i + suc d ≡ suc (i + d) = omega arith in
      ap (begun_turns w m) e ∙ (begun-next (i + d) (h (i + d) (omega arith) (omega arith)) (z (suc (i + d)) (omega arith) (omega arith)) ∙ begun-still i d (λ k a b. h k a (omega arith)) (λ k a b. z k a (omega arith)))

  -- the stretch of ink from i up to e lies in one row
  pub ended-ink : (i e : ℕ) → i < e → ((k : ℕ) → i ≤ k → k < e → is_ink m k ≡ true) → ((k : ℕ) → i < k → k < e → k % w ≡ 0 → ⊥) → ended_turns w m e ≡ begun_turns w m i ++ (e ∷ [])
  ended-ink i e l h z =
      let q : suc (i + (e - suc i)) ≡ e = omega arith in
      ap (ended_turns w m) (sym q)
      ∙ (ink-one (i + (e - suc i)) (h (i + (e - suc i)) (omega arith) (omega arith))
      ∙ (λ t. begun-still i (e - suc i) (λ k a b. h k a (omega arith)) (λ k a b. z k a (omega arith)) t ++ (q t ∷ [])))

  -- a run that opens at i
  begun-open : (i : ℕ) → ink_before w m i ≡ false → begun_turns w m i ≡ turns w m i ++ (i ∷ [])
  unfolding begun_turns append_if
  begun-open i b = rw b

  pub ended-run : (i e : ℕ) → ink_before w m i ≡ false → i < e → ((k : ℕ) → i ≤ k → k < e → is_ink m k ≡ true) → ((k : ℕ) → i < k → k < e → k % w ≡ 0 → ⊥) → ended_turns w m e ≡ (turns w m i ++ (i ∷ [])) ++ (e ∷ [])
  ended-run i e b l h z = ended-ink i e l h z ∙ ap (λ (t : List ℕ). t ++ (e ∷ [])) (begun-open i b)

  -- and as many runs up to its first dot as up to its end
  pub count-run : 0 < w → (i e : ℕ) → i < e → ((k : ℕ) → i ≤ k → k < e → is_ink m k ≡ true) → ((k : ℕ) → i < k → k < e → k % w ≡ 0 → ⊥) → run_count w m (suc i) ≡ run_count w m e
  count-run hw i e l h z =
      let a = ended-length hw (suc i) in
      let b = ended-length hw e in
      let p = ap length (ink-one i (h i (le_refl i) l)) in
      let q = ap length (ended-ink i e l h z) in
      let r = snoc-len (begun_turns w m i) (suc i) in
      let t = snoc-len (begun_turns w m i) e in
      omega arith

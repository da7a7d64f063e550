-- The runs of the smoothed row: the runs of the row's glyph dots with small gaps closed.
use mathlib.Core.Path.{◌≡◌, sym, ap, ◌∙◌}
use mathlib.Core.Bool.{Bool, true, false, cond, true≢false}
use mathlib.Core.List.{List, [], ◌∷◌}
use Prim.Native.Nat.{ℕ, suc, ◌-◌, ◌≤◌, ◌<◌, zero-le}
use native.Mathlib.Nat.{le_refl}
use native.Mathlib.Decide.{dec_le, dec_lt}
use native.Mathlib.Omega.{arith}
use borrow.Author.Tests.{le-leb, lt-leb}
use lib.Dec.{leb}
use Rattle.smoothing.specs.stages.ClosedRuns.{Run, RunsFrom, closed_from, closed}
use Rattle.smoothing.specs.rules.Smoothing.{joined}
use Rattle.smoothing.proofs.JoinLaws.{joined-on, joined-between, joined-before, joined-after}

module _ (p : ℕ → Bool) (n gap : ℕ) where
  abbrev smooth : ℕ → Bool
  smooth = joined p n gap

  -- the run r is the last so far: its places are smoothed, its last place passes, and none passes from its end up to b
  module _ (r : Run) (some : r.start < r.end) (last : p (r.end - 1) ≡ true) where
    -- between r and a run that starts at b
    between : (b : ℕ) → r.end ≤ b → b < n → p b ≡ true → ((k : ℕ) → r.end ≤ k → k < b → p k ≡ false) → (x : ℕ) → r.end ≤ x → x < b → smooth x ≡ leb (b - r.end) gap
    between b h l e off x c d =
        joined-between p n gap (r.end - 1) b l last e (λ k u v. off k (omega arith) v) x (omega arith) d
        ∙ ap (λ z. leb (b - z) gap) (let z : suc (r.end - 1) ≡ r.end = omega arith in z)

  from-runs : (l : List Run) (a : ℕ) (r : Run) → a ≤ r.start → r.start < r.end → r.end ≤ n → p (r.end - 1) ≡ true
      → ((k : ℕ) → a ≤ k → k < r.start → smooth k ≡ false) → ((k : ℕ) → r.start ≤ k → k < r.end → smooth k ≡ true)
      → (r.end < n → p r.end ≡ false) → RunsFrom p n r.end l → RunsFrom smooth n a (closed_from gap r l)
  unfolding closed_from
  from-runs [] a r h some within last off on after rest =
      (h, some, within, off, on, (λ l. joined-after p n gap r.end l (λ k c d. rest k c d)), λ k c d. joined-after p n gap k d (λ j u v. rest j (omega arith) v))
  from-runs (t ∷ l) a r h some within last off on after (low, t_some, t_within, t-off, t-on, t-after, t-rest) =
      go (dec_le (t.start - r.end) gap)
      (λ g. from-runs l a (record { start = r.start; end = t.end }) h (omega arith) t_within (t-on (t.end - 1) (omega arith) (omega arith)) off (solid g) t-after t-rest)
      (λ g. from-runs l r.end t low t_some t_within (t-on (t.end - 1) (omega arith) (omega arith))
      (λ k c d. gap_is k c d ∙ lt-leb (t.start - r.end) gap g) (λ k c d. joined-on p n gap k (t-on k c d)) t-after t-rest)
    where
      gap_is : (k : ℕ) → r.end ≤ k → k < t.start → smooth k ≡ leb (t.start - r.end) gap
      gap_is k c d = between r some last t.start low (omega arith) (t-on t.start (le_refl t.start) t_some) t-off k c d

      solid : t.start - r.end ≤ gap → (k : ℕ) → r.start ≤ k → k < t.end → smooth k ≡ true
      solid g k c d = two (dec_lt k r.end) (dec_lt k t.start)
        where
          two : Dec (k < r.end) → Dec (k < t.start) → smooth k ≡ true
          two (yes x) y = on k c x
          two (no x) (yes y) = gap_is k (omega arith) y ∙ le-leb (t.start - r.end) gap g
          two (no x) (no y) = joined-on p n gap k (t-on k (omega arith) d)

      apart : r.end < t.start
      apart = far (dec_lt r.end t.start)
        where
          far : Dec (r.end < t.start) → r.end < t.start
          far (yes x) = x
          far (no x) =
              let e : t.start ≡ r.end = omega arith in
              absurd (true≢false (sym (t-on t.start (le_refl t.start) t_some) ∙ (ap p e ∙ after (omega arith))))

      go : Dec (t.start - r.end ≤ gap)
          → (t.start - r.end ≤ gap → RunsFrom smooth n a (closed_from gap (record { start = r.start; end = t.end }) l))
          → (gap < t.start - r.end → RunsFrom smooth n r.end (closed_from gap t l))
          → RunsFrom smooth n a (cond (leb (t.start - r.end) gap) (closed_from gap (record { start = r.start; end = t.end }) l) (r ∷ closed_from gap t l))
      go (yes g) one two = rw (le-leb (t.start - r.end) gap g) (one g)
      go (no g) one two =
          let far : gap < t.start - r.end = omega arith in
          rw (lt-leb (t.start - r.end) gap far)
          (h, some, within, off, on, (λ l. gap_is r.end (le_refl r.end) apart ∙ lt-leb (t.start - r.end) gap far), two far)

  -- closing the gaps of at most `gap` between the runs of a row gives exactly the runs of the smoothed row
  pub smoothed-runs : (l : List Run) → RunsFrom p n 0 l → RunsFrom (joined p n gap) n 0 (closed gap l)
  unfolding closed
  smoothed-runs [] h = λ k c d. joined-before p n gap k (λ j u. h j zero-le (omega arith))
  smoothed-runs (r ∷ l) (low, some, within, off, on, after, rest) =
      from-runs l 0 r low some within (on (r.end - 1) (omega arith) (omega arith)) (λ k c d. joined-before p n gap k (λ j u. off j zero-le (omega arith))) (λ k c d. joined-on p n gap k (on k c d)) after rest

-- Smoothing on the runs of a row: gaps of at most the smoothing gap closed.
use Rattle.std.specs.Prelude.{◌≡◌, ℕ, ◌-◌, ◌≤◌, ◌<◌, Bool, true, false, cond, List, [], ◌∷◌, leb}

-- a run of a row: its first place, and the place after its last
pub record Run : Type 0 where
  pub start : ℕ
  pub end : ℕ

-- the runs of places that pass the test p, of the places from a up to n of a row
abbrev pub RunsFrom : (ℕ → Bool) → ℕ → ℕ → List Run → Type 0
RunsFrom p n a [] = (k : ℕ) → a ≤ k → k < n → p k ≡ false
RunsFrom p n a (r ∷ l) =
    (a ≤ r.start) × (r.start < r.end) × (r.end ≤ n) × ((k : ℕ) → a ≤ k → k < r.start → p k ≡ false) × ((k : ℕ) → r.start ≤ k → k < r.end → p k ≡ true)
    × (r.end < n → p r.end ≡ false) × RunsFrom p n r.end l

-- the run r, then the runs l: gaps of at most `gap` are closed
unfoldable pub closed_from : ℕ → Run → List Run → List Run
closed_from gap r [] = r ∷ []
closed_from gap r (t ∷ l) =
    let on = closed_from gap (record { start = r.start; end = t.end }) l in
    let anew = r ∷ closed_from gap t l in
    cond (leb (t.start - r.end) gap) on anew

-- the runs of a row with gaps of at most `gap` closed
unfoldable pub closed : ℕ → List Run → List Run
closed gap [] = []
closed gap (r ∷ l) = closed_from gap r l

-- What the functions along columns hand on to each other, band by band.
use Rattle.std.specs.Prelude.{◌≡◌, cond, List, get_or, length, eqb, ℕ, ◌+◌, ◌*◌, ◌%◌, ◌≤◌, ◌<◌, min}
use Rattle.memory.specs.rules.Limits.{max_extent}
use Rattle.extents.specs.rules.Extents.{ink_at, behind}
use Rattle.extents.specs.stages.Scans.{capped_count}

-- the entries from a up to b are now those of f, the others as they were
pub record Put (f : ℕ → ℕ) (a b : ℕ) (old new : List ℕ) : Type 0 where
  pub size : length new ≡ length old
  pub put : (k : ℕ) → a ≤ k → k < b → get_or new k 0 ≡ f k
  pub lower : (k : ℕ) → k < a → get_or new k 0 ≡ get_or old k 0
  pub upper : (k : ℕ) → b ≤ k → get_or new k 0 ≡ get_or old k 0

-- the dots from `from` up to `to` are the mask's, and those of the row before them have their counts
pub record Counts (w : ℕ) (m : List ℕ) (from to : ℕ) (extents : List ℕ) : Type 0 where
  pub wide : 0 < w
  pub order : from ≤ to
  pub inside : to ≤ length m
  pub room : length m ≤ length extents
  pub counts : (k : ℕ) → from ≤ k + w → k < from → get_or extents k 0 ≡ capped_count w m k

-- how many ink dots in a row of column x, of the r rows from row y on, end at the last of these rows
abbrev pub count_from : ℕ → List ℕ → ℕ → ℕ → ℕ → ℕ
count_from w m y x r = behind (λ j. ink_at w m x (y + j)) r

-- the count of a band's last row, by the count n of the band's own rows and the one of the row above
abbrev pub band_count : ℕ → ℕ → ℕ
band_count n above = min (n + cond (eqb n 32) above 0) max_extent

-- the last row of each whole band before row `end` has its counts; what lies past the mask is as it was
pub record BandsCounted (w : ℕ) (m : List ℕ) (end : ℕ) (old new : List ℕ) : Type 0 where
  pub size : length new ≡ length old
  pub counted : (b : ℕ) → b % 32 ≡ 0 → b ≤ end → (k : ℕ) → b * w ≤ k + w → k < b * w → get_or new k 0 ≡ capped_count w m k
  pub past : (k : ℕ) → length m ≤ k → get_or new k 0 ≡ get_or old k 0

-- Rows or columns walked alike (the Rust's `outer` and `inner`): place i of scanline o lies at o × across + i × along.
use Rattle.std.specs.Prelude.{◌≡◌, Bool, true, false, cond, ◌&&◌, ◌||◌, List, ℕ, ◌+◌, ◌-◌, ◌*◌, ◌≤◌, ◌<◌, length, get_or, ltb, leb}
use Rattle.memory.specs.rules.Limits.{max_mask_dots}
use Rattle.memory.specs.rules.Masks.{is_ink}
use Rattle.extents.specs.rules.Extents.{Plane, behind, extent}
use Rattle.rulings.specs.rules.Rulings.{widened, in_thin_ruling}
use Rattle.extents.specs.stages.Scans.{Starts, MaskFits}
use Rattle.rulings.specs.declared.plane.Sweep.{Sweep}

-- the columns of a plane w wide and h high
abbrev pub sweep_down : ℕ → ℕ → Sweep
sweep_down w h = record { along = w; across = 1; inner = h; outer = w }

-- its rows
abbrev pub sweep_across : ℕ → ℕ → Sweep
sweep_across w h = record { along = 1; across = w; inner = w; outer = h }

-- where place i of scanline o lies
abbrev pub spot_of : Sweep → ℕ → ℕ → ℕ
spot_of g i o = o * g.across + i * g.along

-- the ink by place and scanline
unfoldable pub plane_of : Sweep → List ℕ → Plane
plane_of g m i o = ltb i g.inner && ltb o g.outer && is_ink m (spot_of g i o)

-- scanline o widened across
abbrev pub widened_scanline : Sweep → List ℕ → ℕ → ℕ → Bool
widened_scanline g m o i = widened (plane_of g m) i o

-- ink at most `thick_max` thick across
unfoldable pub is_thin : Sweep → List ℕ → ℕ → Plane
is_thin g m thick_max i o = plane_of g m i o && leb (extent (plane_of g m i) g.outer o) thick_max

-- a dot of a thin ruling along its scanline
abbrev pub is_ruling : Sweep → List ℕ → ℕ → ℕ → Plane
is_ruling g m run_min thick_max = in_thin_ruling (plane_of g m) g.inner g.outer run_min thick_max

-- each place has a dot of its own among n
pub record Laid (g : Sweep) (n : ℕ) : Type 0 where
  pub inside : (i o : ℕ) → i < g.inner → o < g.outer → spot_of g i o < n
  pub apart : (i o j q : ℕ) → i < g.inner → o < g.outer → j < g.inner → q < g.outer → spot_of g i o ≡ spot_of g j q → (i ≡ j) × (o ≡ q)
  pub few : n ≤ max_mask_dots
  pub narrow : g.inner ≤ max_mask_dots
  pub low : g.outer ≤ max_mask_dots

-- r is the first place of those in a row that pass the test and end before `to`, not before `from`
pub record ScannedBack (p : ℕ → Bool) (from to r : ℕ) : Type 0 where
  pub low : from ≤ r
  pub high : r ≤ to
  pub all : (k : ℕ) → r ≤ k → k < to → p k ≡ true
  pub stop : (k : ℕ) → from ≤ k → k + 1 ≡ r → p k ≡ false

-- for each place how far the run across that was met last is known to go on, and an extent that is as thick or thin: they hold from scanline o on
pub record Cached (g : Sweep) (m : List ℕ) (thick_max o : ℕ) (cache : List ℕ) : Type 0 where
  pub room : g.inner + g.inner ≤ length cache
  pub told : (i q : ℕ) → i < g.inner → o ≤ q → q < get_or cache i 0 → leb (get_or cache (g.inner + i) 0) thick_max ≡ leb (extent (plane_of g m i) g.outer q) thick_max

-- marks before and after: v more at the dots that pass the test, of those from the c-th up to the d-th, counted scanline by scanline
pub record Marked (g : Sweep) (n : ℕ) (p : Plane) (v : ℕ) (before after : List ℕ) (c d : ℕ) : Type 0 where
  pub size : length after ≡ length before
  pub each : (i o : ℕ) → i < g.inner → o < g.outer
      → get_or after (spot_of g i o) 0 ≡ get_or before (spot_of g i o) 0 + cond (leb c (o * g.inner + i) && ltb (o * g.inner + i) d && p i o) v 0
  pub past : (k : ℕ) → n ≤ k → get_or after k 0 ≡ get_or before k 0

-- marks that one more fits to, from the c-th dot on
pub record Unmarked (g : Sweep) (n : ℕ) (marks : List ℕ) (c : ℕ) : Type 0 where
  pub room : n ≤ length marks
  pub small : (i o : ℕ) → i < g.inner → o < g.outer → c ≤ o * g.inner + i → get_or marks (spot_of g i o) 0 ≤ 2

-- from place x of scanline o the walk came to r, a start, and all dots between are marked
pub record Walked (g : Sweep) (m : List ℕ) (run_min thick_max v o x r : ℕ) (before after : List ℕ) : Type 0 where
  pub further : x < r
  pub inside : r ≤ g.inner
  pub starts : Starts (widened_scanline g m o) r
  pub marked : Marked g (length m) (is_ruling g m run_min thick_max) v before after (o * g.inner + x) (o * g.inner + r)

-- marks of at most v
pub record UpTo (g : Sweep) (n : ℕ) (marks : List ℕ) (v : ℕ) : Type 0 where
  pub room : n ≤ length marks
  pub small : (i o : ℕ) → i < g.inner → o < g.outer → get_or marks (spot_of g i o) 0 ≤ v

-- a counter a scanline, for those from a up to b: how many widened places in a row end before place y
pub record Counted (g : Sweep) (m : List ℕ) (a b y : ℕ) (words : List ℕ) : Type 0 where
  pub each : (o : ℕ) → a ≤ o → o < b → get_or words o 0 ≡ behind (widened_scanline g m o) y

-- counters before and after: those from a up to b have counted place y, the other words are as they were
pub record Recounted (g : Sweep) (m : List ℕ) (a b y : ℕ) (before after : List ℕ) : Type 0 where
  pub inside : (o : ℕ) → a ≤ o → o < b → get_or after o 0 ≡ behind (widened_scanline g m o) (y + 1)
  pub below : (o : ℕ) → o < a → get_or after o 0 ≡ get_or before o 0
  pub above : (o : ℕ) → b ≤ o → get_or after o 0 ≡ get_or before o 0

-- ink at dot k of a row or at one beside it
abbrev pub ink_beside : List ℕ → ℕ → Bool
ink_beside m k = is_ink m k || is_ink m (k - 1) || is_ink m (k + 1)

-- counters before and after: from a up to b one more where there is ink beside the row's dot, else none; the other words are as they were
pub record CountedOn (m : List ℕ) (row a b : ℕ) (before after : List ℕ) : Type 0 where
  pub inside : (o : ℕ) → a ≤ o → o < b → get_or after o 0 ≡ cond (ink_beside m (row + o)) (get_or before o 0 + 1) 0
  pub below : (o : ℕ) → o < a → get_or after o 0 ≡ get_or before o 0
  pub above : (o : ℕ) → b ≤ o → get_or after o 0 ≡ get_or before o 0

-- a dot of a thin ruling by the first y places of its scanline
unfoldable pub ruling_by : Sweep → List ℕ → ℕ → ℕ → ℕ → Plane
ruling_by g m run_min thick_max y i o = ltb i y && in_thin_ruling (plane_of g m) y g.outer run_min thick_max i o

-- marks before and after, of the scanlines from a up to b: 2 more where a dot of a ruling by the first z places was none by the first y
pub record Risen (g : Sweep) (m : List ℕ) (run_min thick_max a b y z : ℕ) (before after : List ℕ) : Type 0 where
  pub size : length after ≡ length before
  pub each : (i o : ℕ) → i < g.inner → o < g.outer
      → get_or after (spot_of g i o) 0 + cond (leb a o && ltb o b && ruling_by g m run_min thick_max y i o) 2 0
      ≡ get_or before (spot_of g i o) 0 + cond (leb a o && ltb o b && ruling_by g m run_min thick_max z i o) 2 0
  pub past : (k : ℕ) → length m ≤ k → get_or after k 0 ≡ get_or before k 0

-- a plane that fits, with the marks from word `marks` on, and two words a place of the longest scanline before them
pub record RulingsRoom (w h mask_length marks words : ℕ) : Type 0 where
  pub plane : MaskFits w h mask_length (words - marks)
  pub before : marks ≤ words
  pub across : w + w ≤ marks
  pub down : h + h ≤ marks
  pub short : marks ≤ 4294967295

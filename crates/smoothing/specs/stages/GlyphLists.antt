-- Lists of the glyphs with each label in the words of scratch, walks along them, and what writing the lines asks (01, part 7).
use Rattle.std.specs.Prelude.{◌≡◌, ◌≢◌, List, [], ℕ, zero, suc, ◌+◌, ◌*◌, ◌-◌, ◌≤◌, ◌<◌, get_or, length, set}
use Rattle.memory.specs.rules.Lists.{table, occurs, total}
use Rattle.memory.specs.rules.Limits.{max_capacity}
use Rattle.memory.specs.rules.Rects.{height}
use Rattle.sorting.specs.stages.Measures.{size_box}
use Rattle.smoothing.specs.stages.LineWords.{label_at, area_at, own_glyphs, line_record_at}
use Rattle.smoothing.specs.declared.lines.LinePlaces.{LinePlaces}

-- the component that a walk from `first` on meets after so many steps, each to the word from `nexts` on of the one before
unfoldable pub met : List ℕ → ℕ → ℕ → ℕ → ℕ
met s nexts first zero = first
met s nexts first (suc i) = get_or s (nexts + met s nexts first i) 0

-- the first n that it meets
abbrev pub walked : List ℕ → ℕ → ℕ → ℕ → List ℕ
walked s nexts first n = table (met s nexts first) n

-- their areas
abbrev pub walked_areas : List ℕ → ℕ → ℕ → ℕ → ℕ → List ℕ
walked_areas s sizes nexts first n = table (λ i. area_at s sizes (met s nexts first i)) n

-- their heights
abbrev pub walked_heights : List ℕ → ℕ → ℕ → ℕ → ℕ → List ℕ
walked_heights s sizes nexts first n = table (λ i. height (size_box s sizes (met s nexts first i))) n

-- a walk from the head of each label meets just the glyphs with that label, by number
pub record GlyphLists (p : LinePlaces) (s : List ℕ) : Type 0 where
  pub own : (t : ℕ) → t < p.smears
      → walked s p.nexts (get_or s (p.heads + t) 0) (length (own_glyphs s p.kinds p.count (suc t))) ≡ own_glyphs s p.kinds p.count (suc t)

-- labelled kinds, and before them a head for each label, then a next for each component
pub record ListRoom (p : LinePlaces) (s : List ℕ) : Type 0 where
  pub before_nexts : p.heads + p.smears ≤ p.nexts
  pub before_kinds : p.nexts + p.count ≤ p.kinds
  pub room : p.kinds + p.count ≤ length s
  pub few : p.count ≤ max_capacity
  pub labels : (k : ℕ) → k < p.count → label_at s p.kinds k ≤ p.smears

-- component k stands at the head of its label's list, if it has a label
pub record ListedGlyph (label heads nexts k : ℕ) (s s' : List ℕ) : Type 0 where
  pub none : label ≡ 0 → s' ≡ s
  pub some : 0 < label → s' ≡ set (set s (nexts + k) (get_or s (heads + (label - 1)) 0)) (heads + (label - 1)) k

-- the words from `at` on are as they were, but for heads and nexts
pub record KeptBeside (at : ℕ) (p : LinePlaces) (s s' : List ℕ) : Type 0 where
  pub len : length s' ≡ length s
  pub before : (i : ℕ) → at ≤ i → i < p.heads → get_or s' i 0 ≡ get_or s i 0
  pub between : (i : ℕ) → p.heads + p.smears ≤ i → i < p.nexts → get_or s' i 0 ≡ get_or s i 0
  pub behind : (i : ℕ) → p.nexts + p.count ≤ i → get_or s' i 0 ≡ get_or s i 0

-- sizes and nexts of all that a walk meets
pub record WalkRoom (sizes nexts first n : ℕ) (s : List ℕ) : Type 0 where
  pub sizes_room : (i : ℕ) → i < n → sizes + met s nexts first i * 5 + 5 ≤ length s
  pub nexts_room : (i : ℕ) → i < n → nexts + met s nexts first i < length s

-- and before them a count for each of their heights
pub record HeightsRoom (p : LinePlaces) (first n : ℕ) (s : List ℕ) : Type 0 where
  pub walk : WalkRoom p.sizes p.nexts first n s
  pub before_nexts : p.heights + p.values ≤ p.nexts
  pub before_sizes : p.heights + p.values ≤ p.sizes
  pub room : p.heights + p.values ≤ length s
  pub tops : (i : ℕ) → i < n → (size_box s p.sizes (met s p.nexts first i)).y0 ≤ (size_box s p.sizes (met s p.nexts first i)).y1
  pub low : (i : ℕ) → i < n → (size_box s p.sizes (met s p.nexts first i)).y1 + 1 < p.values
  pub narrow : p.values ≤ 4294967295

-- the counts of heights are those of this list
pub record HeightCounts (p : LinePlaces) (l : List ℕ) (s : List ℕ) : Type 0 where
  pub each : (v : ℕ) → v < p.values → get_or s (p.heights + v) 0 ≡ occurs v l

-- the height of the component met after i steps
abbrev pub met_height : LinePlaces → ℕ → List ℕ → ℕ → ℕ
met_height p first s i = height (size_box s p.sizes (met s p.nexts first i))

-- f i v is the count of height v before step i of a walk, which changes that of one height alone
pub record HeightSteps (p : LinePlaces) (first n : ℕ) (s : List ℕ) (f : ℕ → ℕ → ℕ) : Type 0 where
  pub start : (v : ℕ) → v < p.values → get_or s (p.heights + v) 0 ≡ f 0 v
  pub others : (i v : ℕ) → i < n → v ≢ met_height p first s i → f i v ≡ f (i + 1) v

-- counts of heights, heads, nexts, and behind them sizes and labelled kinds of the components, with not too much ink for a word, and sizes
-- and counts of glyphs of the smoothed components
pub record OwnRoom (p : LinePlaces) (s : List ℕ) : Type 0 where
  pub before_heads : p.heights + p.values ≤ p.heads
  pub lists : ListRoom p s
  pub before_sizes : p.nexts + p.count ≤ p.sizes
  pub sizes_room : p.sizes + p.count * 5 ≤ length s
  pub tops : (k : ℕ) → k < p.count → (size_box s p.sizes k).y0 ≤ (size_box s p.sizes k).y1
  pub low : (k : ℕ) → k < p.count → (size_box s p.sizes k).y1 + 1 < p.values
  pub narrow : p.values ≤ 4294967295
  pub ink : total (table (area_at s p.sizes) p.count) ≤ 4294967295
  pub before_smoothed : p.nexts + p.count ≤ p.smoothed
  pub before_glyphs : p.nexts + p.count ≤ p.glyphs
  pub smoothed_room : p.smoothed + p.smears * 5 ≤ length s
  pub glyphs_room : p.glyphs + p.smears ≤ length s
  pub counted : (t : ℕ) → t < p.smears → get_or s (p.glyphs + t) 0 ≡ length (own_glyphs s p.kinds p.count (suc t))

-- the record of the line that smoothed component t is
abbrev pub record_at : LinePlaces → List ℕ → ℕ → List ℕ
record_at p s t = line_record_at s p.smoothed p.glyphs p.sizes p.kinds p.count t

-- the lists are made and no height is counted
pub record LineRoom (p : LinePlaces) (s : List ℕ) : Type 0 where
  pub own : OwnRoom p s
  pub lists : GlyphLists p s
  pub none : HeightCounts p [] s

-- n labels of lines in their order, between the counts and the heads, and room for their records
pub record LinesRoom (p : LinePlaces) (n : ℕ) (s : List ℕ) (out : ℕ) : Type 0 where
  pub own : OwnRoom p s
  pub before_order : p.heights + p.values ≤ p.order
  pub order_room : p.order + n ≤ p.heads
  pub labels : (i : ℕ) → i < n → 0 < get_or s (p.order + i) 0
  pub low : (i : ℕ) → i < n → get_or s (p.order + i) 0 ≤ p.smears
  pub room : n * 8 ≤ out

-- What the functions hand on to each other: a scan along a row, counts down the columns, sides and lengths that fit.
use Rattle.std.specs.Prelude.{◌≡◌, Bool, false, cond, not, ◌&&◌, List, get_or, length, ltb, ℕ, suc, ◌+◌, ◌-◌, ◌*◌, ◌/◌, ◌%◌, ◌≤◌, ◌<◌, min}
use Rattle.memory.specs.rules.Lists.{table}
use Rattle.memory.specs.rules.Limits.{max_mask_side, max_mask_dots, max_extent}
use Rattle.memory.specs.rules.Masks.{is_ink}
use Rattle.extents.specs.rules.Extents.{ink_at, behind, extent}

-- r is the first place from x on, of n, where the test gives other than b
pub record ScannedTo (p : ℕ → Bool) (b : Bool) (x n r : ℕ) : Type 0 where
  pub low : x ≤ r
  pub high : r ≤ n
  pub all : (k : ℕ) → x ≤ k → k < r → p k ≡ b
  pub stop : r < n → p r ≡ not b

-- a place is a start: none passes just before it, or it does not pass itself
pub data Starts (p : ℕ → Bool) (x : ℕ) : Type 0 where
  clear : behind p x ≡ 0 → Starts p x
  blank : p x ≡ false → Starts p x

-- f below i, g from i on
unfoldable pub until : ℕ → (ℕ → ℕ) → (ℕ → ℕ) → ℕ → ℕ
until i f g k = cond (ltb k i) (f k) (g k)

-- the extent of a dot that is a run of its own
abbrev pub single_dot : List ℕ → ℕ → ℕ
single_dot row k = cond (is_ink row k) 1 0

-- the dots of a row before x, a start, have their extents, and the others as if each were a run of its own
pub record RowTo (row : List ℕ) (x : ℕ) (extents : List ℕ) : Type 0 where
  pub inside : x ≤ length row
  pub starts : Starts (is_ink row) x
  pub held : extents ≡ table (until x (extent (is_ink row) (length row)) (single_dot row)) (length row)

-- the dots before x have their extents; from x up to i they have f, then up to `to` g, the others as if each were a run of its own
pub record RowParts (row : List ℕ) (x i to : ℕ) (f g : ℕ → ℕ) (extents : List ℕ) : Type 0 where
  pub size : length extents ≡ length row
  pub below : (k : ℕ) → k < x → get_or extents k 0 ≡ extent (is_ink row) (length row) k
  pub first : (k : ℕ) → x ≤ k → k < i → get_or extents k 0 ≡ f k
  pub second : (k : ℕ) → i ≤ k → k < to → get_or extents k 0 ≡ g k
  pub above : (k : ℕ) → to ≤ k → k < length row → get_or extents k 0 ≡ single_dot row k

-- the dots from x up to i have the count of the ink that ends at them, those then up to `to` their extents
abbrev pub RowCounted : List ℕ → ℕ → ℕ → ℕ → List ℕ → Type 0
RowCounted row x i to = RowParts row x i to (λ k. behind (is_ink row) (suc k)) (extent (is_ink row) (length row))

-- a part of a row from a start up to a start, not the row's end
pub record PartOfRow (row : List ℕ) (x to : ℕ) : Type 0 where
  pub order : x ≤ to
  pub inside : to < length row
  pub from : Starts (is_ink row) x
  pub upto : Starts (is_ink row) to

-- the four dots from k on are not all ink
abbrev pub no_four : List ℕ → ℕ → Type 0
no_four row k = (is_ink row k && is_ink row (k + 1) && is_ink row (k + 2) && is_ink row (k + 3)) ≡ false

-- the extent of the third of five dots, in a run of at most three
abbrev pub short_extent : Bool → Bool → Bool → Bool → Bool → ℕ
short_extent a b dot d e = cond dot (1 + cond b (cond a 2 1) 0 + cond d (cond e 2 1) 0) 0

-- the same of dot i of a row
abbrev pub short_extent_at : List ℕ → ℕ → ℕ
short_extent_at row i = short_extent (is_ink row (i - 2)) (is_ink row (i - 1)) (is_ink row i) (is_ink row (i + 1)) (is_ink row (i + 2))

-- how many ink dots in a row, down its column, end at dot i
abbrev pub count_down : ℕ → List ℕ → ℕ → ℕ
count_down w m i = behind (ink_at w m (i % w)) (suc (i / w))

-- the same as an extent
abbrev pub capped_count : ℕ → List ℕ → ℕ → ℕ
capped_count w m i = min (count_down w m i) max_extent

-- the extent of dot i along its column
abbrev pub column_extent : ℕ → ℕ → List ℕ → ℕ → ℕ
column_extent w h m i = extent (ink_at w m (i % w)) h (i / w)

-- the extent of dot i along its row
abbrev pub row_extent : ℕ → List ℕ → ℕ → ℕ
row_extent w m i = extent (λ x. ink_at w m x (i / w)) w (i % w)

-- a plane w wide and h high within its limits, in a mask of its length, with a word a dot
pub record MaskFits (w h mask_length words : ℕ) : Type 0 where
  pub wide : 0 < w
  pub narrow : w ≤ max_mask_side
  pub high : 0 < h
  pub low : h ≤ max_mask_side
  pub few : w * h ≤ max_mask_dots
  pub dots : mask_length ≡ w * h
  pub room : w * h ≤ words

-- the dots from `from` up to `to` have their counts and all that follow their extents, along the columns
pub record TakesUp (w h : ℕ) (m : List ℕ) (from to : ℕ) (extents : List ℕ) : Type 0 where
  pub wide : 0 < w
  pub few : w * h ≤ max_mask_dots
  pub size : length m ≡ w * h
  pub order : from ≤ to
  pub inside : to ≤ w * h
  pub room : w * h ≤ length extents
  pub counts : (k : ℕ) → from ≤ k → k < to → get_or extents k 0 ≡ capped_count w m k
  pub final : (k : ℕ) → to ≤ k → k < w * h → get_or extents k 0 ≡ column_extent w h m k

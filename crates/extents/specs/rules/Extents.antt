-- Run extents (01, part 4). A plane is a test of (column, row), false off its sides; `p x` is its column x.
use Rattle.std.specs.Prelude.{ℕ, zero, suc, ◌+◌, ◌-◌, ◌*◌, ◌/◌, ◌%◌, min, Bool, cond, ◌&&◌, List, ltb}
use Rattle.memory.specs.rules.Lists.{table}
use Rattle.memory.specs.rules.Limits.{max_extent}
use Rattle.memory.specs.rules.Masks.{is_ink}

abbrev pub Plane : Type 0
Plane = ℕ → ℕ → Bool

-- the ink of a mask w wide
unfoldable pub ink_at : ℕ → List ℕ → Plane
ink_at w m x y = ltb x w && is_ink m (y * w + x)

-- a plane as a mask w wide and h high
unfoldable pub mask_of : ℕ → ℕ → Plane → List ℕ
mask_of w h p = table (λ i. cond (p (i % w) (i / w)) 1 0) (w * h)

-- how many places in a row, just before x, pass the test
unfoldable pub behind : (ℕ → Bool) → ℕ → ℕ
behind p zero = 0
behind p (suc x) = let r = suc (behind p x) in cond (p x) r 0

-- how many in a row from x on pass it, of n
unfoldable pub ahead : (ℕ → Bool) → ℕ → ℕ → ℕ
ahead p x zero = 0
ahead p x (suc n) = let r = suc (ahead p (suc x) n) in cond (p x) r 0

-- the length of the run through x, of a line of n places; 0 where x does not pass
unfoldable pub run_through : (ℕ → Bool) → ℕ → ℕ → ℕ
run_through p n x = cond (p x) (behind p x + ahead p x (n - x)) 0

-- on ink, the smaller of the run length and 65,534; elsewhere 0
unfoldable pub extent : (ℕ → Bool) → ℕ → ℕ → ℕ
extent p n x = min (run_through p n x) max_extent

-- the run extents of a mask along its rows
unfoldable pub row_extents : ℕ → ℕ → List ℕ → List ℕ
row_extents w h m = table (λ i. extent (λ x. ink_at w m x (i / w)) w (i % w)) (w * h)

-- the run extents of a mask along its columns
unfoldable pub column_extents : ℕ → ℕ → List ℕ → List ℕ
column_extents w h m = table (λ i. extent (ink_at w m (i % w)) h (i / w)) (w * h)

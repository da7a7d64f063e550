-- Runs of frame columns: one frame column more; where the runs lie, and which frame columns they hold.
use mathlib.Core.Path.{◌≡◌, refl, sym, ap, ◌∙◌}
use mathlib.Core.Bool.{Bool, true, false, cond}
use mathlib.Core.List.{List, [], ◌∷◌, ◌++◌}
use Prim.Native.Nat.{ℕ, zero, suc, ◌+◌, ◌-◌, ◌≤◌, ◌<◌, zero-le}
use native.Mathlib.Nat.{not-suc-le-zero, le_of_suc-le-suc, le_refl}
use native.Mathlib.Decide.{dec_lt}
use native.Mathlib.Omega.{arith}
use borrow.Author.Tests.{ltb-true, ltb-false}
use lib.ListN.{get_or, length}
use lib.Dec.{ltb}
use Rattle.memory.specs.rules.Lists.{table, upto, keep}
use Rattle.grouping.specs.rules.Columns.{column, columns_from, column_runs}
use Rattle.grouping.specs.stages.Covers.{extended}
use Rattle.grouping.specs.declared.column.Column.{Column}
use Rattle.memory.proofs.ListLaws.{keep-snoc-yes, keep-snoc-no, Each}

some-run : (gap a b : ℕ) (xs : List ℕ) → (c : Column) × (l : List Column) × (columns_from gap a b xs ≡ c ∷ l)
unfolding columns_from
some-run gap a b [] = (column a b, [], refl)
some-run gap a b (x ∷ xs) = go (ltb (x - (b + 1)) gap) (some-run gap a x xs)
  where
    go : (t : Bool) → ((c : Column) × (l : List Column) × (columns_from gap a x xs ≡ c ∷ l))
        → (c : Column) × (l : List Column) × (cond t (columns_from gap a x xs) (column a b ∷ columns_from gap x x xs) ≡ c ∷ l)
    go true r = r
    go false r = (column a b, columns_from gap x x xs, refl)

after_first : (gap x : ℕ) (c : Column) (cs : List Column) → ((d : Column) × (l : List Column) × (cs ≡ d ∷ l)) → extended gap x (c ∷ cs) ≡ c ∷ extended gap x cs
unfolding extended
after_first gap x c cs (d, l, e) = ap (λ (t : List Column). extended gap x (c ∷ t)) e ∙ ap (λ (t : List Column). c ∷ extended gap x t) (sym e)

from-snoc : (gap a b : ℕ) (xs : List ℕ) (x : ℕ) → columns_from gap a b (xs ++ (x ∷ [])) ≡ extended gap x (columns_from gap a b xs)
unfolding columns_from extended
from-snoc gap a b [] x = refl
from-snoc gap a b (y ∷ xs) x = go (ltb (y - (b + 1)) gap) (from-snoc gap a y xs x) (from-snoc gap y y xs x)
  where
    go : (t : Bool) → columns_from gap a y (xs ++ (x ∷ [])) ≡ extended gap x (columns_from gap a y xs) → columns_from gap y y (xs ++ (x ∷ [])) ≡ extended gap x (columns_from gap y y xs)
        → cond t (columns_from gap a y (xs ++ (x ∷ []))) (column a b ∷ columns_from gap y y (xs ++ (x ∷ []))) ≡ extended gap x (cond t (columns_from gap a y xs) (column a b ∷ columns_from gap y y xs))
    go true e f = e
    go false e f = ap (λ (t : List Column). column a b ∷ t) f ∙ sym (after_first gap x (column a b) (columns_from gap y y xs) (some-run gap y y xs))

-- one frame column more is one step of the walk
pub runs-snoc : (gap : ℕ) (xs : List ℕ) (x : ℕ) → column_runs gap (xs ++ (x ∷ [])) ≡ extended gap x (column_runs gap xs)
unfolding column_runs columns_from extended
runs-snoc gap [] x = refl
runs-snoc gap (y ∷ xs) x = from-snoc gap y y xs x

-- numbers that rise from b on and stay below w
abbrev pub Rising : ℕ → ℕ → List ℕ → Type 0
Rising b w [] = Unit
Rising b w (x ∷ l) = (b ≤ x) × (x < w) × Rising (suc x) w l

rising-more : (b n : ℕ) (l : List ℕ) → Rising b n l → Rising b (suc n) l
rising-more b n [] h = tt
rising-more b n (x ∷ l) (h, k, r) = (h, omega arith, rising-more (suc x) n l r)

rising_snoc : (b n : ℕ) (l : List ℕ) → b ≤ n → Rising b n l → Rising b (suc n) (l ++ (n ∷ []))
rising_snoc b n [] h r = (h, le_refl (suc n), tt)
rising_snoc b n (x ∷ l) h (k, m, r) = (k, omega arith, rising_snoc (suc x) n l m r)

pub rising-keep : (p : ℕ → Bool) (w : ℕ) → Rising 0 w (keep p (upto w))
unfolding upto table keep
rising-keep p zero = tt
rising-keep p (suc n) = go (p n) refl (rising-keep p n)
  where
    go : (t : Bool) → p n ≡ t → Rising 0 n (keep p (upto n)) → Rising 0 (suc n) (keep p (upto n ++ (n ∷ [])))
    go true e r = rw (keep-snoc-yes p (upto n) n e) (rising_snoc 0 n (keep p (upto n)) zero-le r)
    go false e r = rw (keep-snoc-no p (upto n) n e) (rising-more 0 n (keep p (upto n)) r)

-- columns in order from b on, disjoint, below w
abbrev pub InOrder : ℕ → ℕ → List Column → Type 0
InOrder b w [] = Unit
InOrder b w (c ∷ l) = (b ≤ c.x0) × (c.x0 ≤ c.x1) × (c.x1 < w) × InOrder (suc c.x1) w l

from-order : (gap w s a b : ℕ) (xs : List ℕ) → s ≤ a → a ≤ b → b < w → Rising (suc b) w xs → InOrder s w (columns_from gap a b xs)
unfolding columns_from
from-order gap w s a b [] h k m r = (h, k, m, tt)
from-order gap w s a b (x ∷ xs) h k m (l, o, r) =
    go (ltb (x - (b + 1)) gap) (from-order gap w s a x xs h (omega arith) o r) (from-order gap w (suc b) x x xs l (le_refl x) o r)
  where
    go : (t : Bool) → InOrder s w (columns_from gap a x xs) → InOrder (suc b) w (columns_from gap x x xs)
        → InOrder s w (cond t (columns_from gap a x xs) (column a b ∷ columns_from gap x x xs))
    go true on anew = on
    go false on anew = (h, k, m, anew)

pub runs-order : (gap w : ℕ) (xs : List ℕ) → Rising 0 w xs → InOrder 0 w (column_runs gap xs)
unfolding column_runs
runs-order gap w [] r = tt
runs-order gap w (x ∷ xs) (h, k, r) = from-order gap w 0 x x xs zero-le (le_refl x) k r

-- what the order says of two places of the list
pub order-at : (b w : ℕ) (l : List Column) → InOrder b w l → (i : ℕ) (d : Column) → i < length l → (b ≤ (get_or l i d).x0) × ((get_or l i d).x0 ≤ (get_or l i d).x1) × ((get_or l i d).x1 < w)
order-at b w [] o i d h = absurd (not-suc-le-zero h)
order-at b w (c ∷ l) (p, q, r, o) zero d h = (p, q, r)
order-at b w (c ∷ l) (p, q, r, o) (suc i) d h = let (x, y, z) = order-at (suc c.x1) w l o i d (le_of_suc-le-suc h) in (omega arith, y, z)

pub order-apart : (b w : ℕ) (l : List Column) → InOrder b w l → (i j : ℕ) (d : Column) → i < j → j < length l → (get_or l i d).x1 < (get_or l j d).x0
order-apart b w [] o i j d h k = absurd (not-suc-le-zero k)
order-apart b w (c ∷ l) o i zero d h k = absurd (not-suc-le-zero h)
order-apart b w (c ∷ l) (p, q, r, o) zero (suc j) d h k = (order-at (suc c.x1) w l o j d (le_of_suc-le-suc k)).0
order-apart b w (c ∷ l) (p, q, r, o) (suc i) (suc j) d h k = order-apart (suc c.x1) w l o i j d (le_of_suc-le-suc h) (le_of_suc-le-suc k)

-- each run starts and ends at one of its frame columns
from-ends : (P : ℕ → Type 0) (gap a b : ℕ) (xs : List ℕ) → P a → P b → Each P xs → Each (λ (c : Column). P c.x0 × P c.x1) (columns_from gap a b xs)
unfolding columns_from
from-ends P gap a b [] h k e = ((h, k), tt)
from-ends P gap a b (x ∷ xs) h k (e, es) = go (ltb (x - (b + 1)) gap) (from-ends P gap a x xs h e es) (from-ends P gap x x xs e e es)
  where
    go : (t : Bool) → Each (λ (c : Column). P c.x0 × P c.x1) (columns_from gap a x xs) → Each (λ (c : Column). P c.x0 × P c.x1) (columns_from gap x x xs)
        → Each (λ (c : Column). P c.x0 × P c.x1) (cond t (columns_from gap a x xs) (column a b ∷ columns_from gap x x xs))
    go true on anew = on
    go false on anew = ((h, k), anew)

pub runs-ends : (P : ℕ → Type 0) (gap : ℕ) (xs : List ℕ) → Each P xs → Each (λ (c : Column). P c.x0 × P c.x1) (column_runs gap xs)
unfolding column_runs
runs-ends P gap [] e = tt
runs-ends P gap (x ∷ xs) (e, es) = from-ends P gap x x xs e e es

-- frame column x lies in one of these columns
abbrev pub Within : Column → List Column → ℕ → Type 0
Within d cs x = (i : ℕ) × (i < length cs) × ((get_or cs i d).x0 ≤ x) × (x ≤ (get_or cs i d).x1)

either-within : (d c : Column) (on anew : List Column) (x : ℕ) (t : Bool) → Within d on x → Within d anew x → Within d (cond t on (c ∷ anew)) x
either-within d c on anew x true h k = h
either-within d c on anew x false h (i, l, from, to) = (suc i, (let z : suc i < suc (length anew) = omega arith in z), from, to)

-- the first run has all from its start to its end
from_first : (d : Column) (gap w a b : ℕ) (xs : List ℕ) → Rising (suc b) w xs → (x : ℕ) → a ≤ x → x ≤ b → Within d (columns_from gap a b xs) x
unfolding columns_from
from_first d gap w a b [] r x h k = (0, (let z : 0 < suc zero = omega arith in z), h, k)
from_first d gap w a b (y ∷ xs) (l, o, r) x h k = go (ltb (y - (b + 1)) gap) (from_first d gap w a y xs r x h (omega arith))
  where
    go : (t : Bool) → Within d (columns_from gap a y xs) x → Within d (cond t (columns_from gap a y xs) (column a b ∷ columns_from gap y y xs)) x
    go true on = on
    go false on = (0, (let z : 0 < suc (length (columns_from gap y y xs)) = omega arith in z), h, k)

from_each : (d : Column) (gap w a b : ℕ) (xs : List ℕ) → a ≤ b → Rising (suc b) w xs → (j : ℕ) → j < length xs → Within d (columns_from gap a b xs) (get_or xs j 0)
unfolding columns_from
from_each d gap w a b [] m r j h = absurd (not-suc-le-zero h)
from_each d gap w a b (y ∷ xs) m (l, o, r) zero h =
    either-within d (column a b) (columns_from gap a y xs) (columns_from gap y y xs) y (ltb (y - (b + 1)) gap) (from_first d gap w a y xs r y (omega arith) (le_refl y)) (from_first d gap w y y xs r y (le_refl y) (le_refl y))
from_each d gap w a b (y ∷ xs) m (l, o, r) (suc j) h =
    either-within d (column a b) (columns_from gap a y xs) (columns_from gap y y xs) (get_or xs j 0) (ltb (y - (b + 1)) gap)
    (from_each d gap w a y xs (omega arith) r j (le_of_suc-le-suc h)) (from_each d gap w y y xs (le_refl y) r j (le_of_suc-le-suc h))

-- each of the frame columns lies in a run
pub runs-each : (d : Column) (gap w : ℕ) (xs : List ℕ) → Rising 0 w xs → (j : ℕ) → j < length xs → Within d (column_runs gap xs) (get_or xs j 0)
unfolding column_runs
runs-each d gap w [] r j h = absurd (not-suc-le-zero h)
runs-each d gap w (x ∷ xs) (l, o, r) zero h = from_first d gap w x x xs r x (le_refl x) (le_refl x)
runs-each d gap w (x ∷ xs) (l, o, r) (suc j) h = from_each d gap w x x xs (le_refl x) r j (le_of_suc-le-suc h)

-- the first run keeps its start
from_start : (d : Column) (gap a b : ℕ) (xs : List ℕ) → (get_or (columns_from gap a b xs) 0 d).x0 ≡ a
unfolding columns_from
from_start d gap a b [] = refl
from_start d gap a b (x ∷ xs) = go (ltb (x - (b + 1)) gap) (from_start d gap a x xs)
  where
    go : (t : Bool) → (get_or (columns_from gap a x xs) 0 d).x0 ≡ a → (get_or (cond t (columns_from gap a x xs) (column a b ∷ columns_from gap x x xs)) 0 d).x0 ≡ a
    go true e = e
    go false e = refl

from-spaced : (d : Column) (gap a b : ℕ) (xs : List ℕ) (i : ℕ) → suc i < length (columns_from gap a b xs) → gap ≤ (get_or (columns_from gap a b xs) (suc i) d).x0 - ((get_or (columns_from gap a b xs) i d).x1 + 1)
unfolding columns_from
from-spaced d gap a b [] i h = absurd (not-suc-le-zero (le_of_suc-le-suc h))
from-spaced d gap a b (x ∷ xs) i h = go (ltb (x - (b + 1)) gap) refl i (from-spaced d gap a x xs) (from-spaced d gap x x xs) h
  where
    Spaced : List Column → ℕ → Type 0
    Spaced cs i = suc i < length cs → gap ≤ (get_or cs (suc i) d).x0 - ((get_or cs i d).x1 + 1)

    go : (t : Bool) → ltb (x - (b + 1)) gap ≡ t → (i : ℕ) → ((i : ℕ) → Spaced (columns_from gap a x xs) i) → ((i : ℕ) → Spaced (columns_from gap x x xs) i)
        → Spaced (cond t (columns_from gap a x xs) (column a b ∷ columns_from gap x x xs)) i
    go true e i on anew k = on i k
    go false e zero on anew k = let z = from_start d gap x x xs in let l = ltb-false (x - (b + 1)) gap e in omega arith
    go false e (suc i) on anew k = anew i (le_of_suc-le-suc k)

-- between two runs that follow one another lie at least `gap` frame columns
pub runs-spaced : (d : Column) (gap : ℕ) (xs : List ℕ) (i : ℕ) → suc i < length (column_runs gap xs) → gap ≤ (get_or (column_runs gap xs) (suc i) d).x0 - ((get_or (column_runs gap xs) i d).x1 + 1)
unfolding column_runs
runs-spaced d gap [] i h = absurd (not-suc-le-zero h)
runs-spaced d gap (x ∷ xs) i h = from-spaced d gap x x xs i h

-- fewer than `gap` frame columns after x, before the column's end, one has the property P
abbrev pub Close : (ℕ → Type 0) → ℕ → Column → Type 0
Close P gap c = (x : ℕ) → c.x0 ≤ x → x < c.x1 → (y : ℕ) × P y × (x < y) × (y ≤ c.x1) × (y - (x + 1) < gap)

from-close : (P : ℕ → Type 0) (gap w a b : ℕ) (xs : List ℕ) → Each P xs → Rising (suc b) w xs → Close P gap (column a b) → Each (Close P gap) (columns_from gap a b xs)
unfolding columns_from
from-close P gap w a b [] e r c = (c, tt)
from-close P gap w a b (y ∷ xs) (e, es) (l, o, r) c = go (ltb (y - (b + 1)) gap) refl (from-close P gap w a y xs es r) (from-close P gap w y y xs es r (λ x h k. absurd (omega arith)))
  where
    longer : y - (b + 1) < gap → Close P gap (column a y)
    longer near x h k = by (dec_lt x b)
      where
        by : Dec (x < b) → (z : ℕ) × P z × (x < z) × (z ≤ y) × (z - (x + 1) < gap)
        by (yes before) = let (z, q, past, most, fewer) = c x h before in (z, q, past, omega arith, fewer)
        by (no after) = (y, e, k, le_refl y, omega arith)

    go : (t : Bool) → ltb (y - (b + 1)) gap ≡ t → (Close P gap (column a y) → Each (Close P gap) (columns_from gap a y xs)) → Each (Close P gap) (columns_from gap y y xs)
        → Each (Close P gap) (cond t (columns_from gap a y xs) (column a b ∷ columns_from gap y y xs))
    go true q on anew = on (longer (ltb-true (y - (b + 1)) gap q))
    go false q on anew = (c, anew)

-- a run goes on over fewer than `gap` others
pub runs_close : (P : ℕ → Type 0) (gap w : ℕ) (xs : List ℕ) → Each P xs → Rising 0 w xs → Each (Close P gap) (column_runs gap xs)
unfolding column_runs
runs_close P gap w [] e r = tt
runs_close P gap w (x ∷ xs) (e, es) (l, o, r) = from-close P gap w x x xs es r (λ z h k. absurd (omega arith))

-- no more runs than frame columns
pub extended-length : (gap x : ℕ) (cs : List Column) → length (extended gap x cs) ≤ suc (length cs)
unfolding extended
extended-length gap x [] = le_refl 1
extended-length gap x (c ∷ []) = go (ltb (x - (c.x1 + 1)) gap)
  where
    go : (t : Bool) → length (cond t (column c.x0 x ∷ []) (c ∷ column x x ∷ [])) ≤ 2
    go true = omega arith
    go false = le_refl 2
extended-length gap x (c ∷ (d ∷ l)) = let e = extended-length gap x (d ∷ l) in omega arith

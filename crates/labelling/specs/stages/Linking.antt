-- What linking keeps. Of a run list in the words s the first c runs are known, by their turns, `take (2 * c) s`; the parents are `drop q s`. Runs
-- that are linked all at once have them right behind, at q = 2 * c.
use Rattle.std.specs.Prelude.{◌≡◌, Bool, false, List, ℕ, suc, ◌+◌, ◌*◌, ◌/◌, ◌≤◌, ◌<◌, length, set, take, drop}
use Rattle.memory.specs.rules.Limits.{max_mask_side, max_mask_dots}
use Rattle.union_find.specs.rules.Classes.{first_of, firsts}
use Rattle.union_find.specs.stages.Forests.{Seen, Forest}
use Rattle.labelling.specs.stages.InkRuns.{start_of, end_of, touch_runs}
use Rattle.labelling.specs.stages.Extraction.{row_words, PlaneRoom, Extracted}

-- which runs of the turns t touch, in rows w wide
abbrev pub touching : ℕ → List ℕ → ℕ → ℕ → Bool
touching w t = touch_runs w (start_of t) (end_of t 0)

-- the first run of the component of run k
abbrev pub first_run : ℕ → ℕ → List ℕ → ℕ → ℕ
first_run w c t = first_of (firsts (touching w t) c)

-- c runs one after the other
pub record Order (c : ℕ) (t : List ℕ) : Type 0 where
  pub some : (k : ℕ) → k < c → start_of t k < end_of t 0 k
  pub rising : (j k : ℕ) → j < k → k < c → end_of t 0 j ≤ start_of t k

-- a run list within the limits, with room for its parents
pub record RunList (w c : ℕ) (s : List ℕ) : Type 0 where
  pub wide : 0 < w
  pub narrow : w ≤ max_mask_side
  pub few : c ≤ max_mask_dots
  pub room : 3 * c ≤ length s
  pub order : Order c (take (2 * c) s)

-- a run list of which c runs are known, with room for more before its parents, which begin at word q
pub record KnownRuns (w c q : ℕ) (s : List ℕ) : Type 0 where
  pub wide : 0 < w
  pub narrow : w ≤ max_mask_side
  pub few : c ≤ max_mask_dots
  pub place : 2 * c ≤ q
  pub room : q + c ≤ length s
  pub order : Order c (take (2 * c) s)

-- the words from q on, the parents, have changed and nothing else
pub record Kept (q : ℕ) (s s' : List ℕ) : Type 0 where
  pub len : length s' ≡ length s
  pub runs : take q s' ≡ take q s

-- the runs below j have parents, and are joined with those that they touch
pub record Linked (w c : ℕ) (t p : List ℕ) (j : ℕ) : Type 0 where
  pub rep : ℕ → ℕ
  pub seen : Seen (touching w t) c rep j 0
  pub forest : Forest rep p j

-- run j has met those below k, and `member` is of its class
pub record Joining (w c : ℕ) (t p : List ℕ) (j k member : ℕ) : Type 0 where
  pub rep : ℕ → ℕ
  pub seen : Seen (touching w t) c rep j k
  pub forest : Forest rep p j
  pub own : rep member ≡ rep j
  pub low : member < j

-- run j stands under the runs from i up to `to`, and touches no other before it; those before i touch none from j on, and run `to`, of run j's
-- own row, does not end left of it in the row above
pub record Under (w c : ℕ) (t : List ℕ) (i to j : ℕ) : Type 0 where
  pub low : i ≤ to
  pub mid : to ≤ j
  pub high : j < c
  pub left : (a k : ℕ) → a < i → j ≤ k → k < c → touching w t a k ≡ false
  pub above : (a : ℕ) → i ≤ a → a < to → start_of t a / w + 1 ≡ start_of t j / w
  pub own : i < to → start_of t j ≤ end_of t 0 to + w
  pub beside : (a : ℕ) → to ≤ a → a < j → touching w t a j ≡ false

-- what linking run j asks
pub record Linkable (w c q : ℕ) (s : List ℕ) (i to j : ℕ) : Type 0 where
  pub list : KnownRuns w c q s
  pub under : Under w c (take (2 * c) s) i to j
  pub linked : Linked w c (take (2 * c) s) (drop q s) j

-- what a parent for run j asks: the runs before `first` are passed, and it ends far enough right
pub record Joinable (w c q : ℕ) (s : List ℕ) (first to j : ℕ) : Type 0 where
  pub list : KnownRuns w c q s
  pub under : Under w c (take (2 * c) s) first to j
  pub reach : first < to → start_of (take (2 * c) s) j ≤ end_of (take (2 * c) s) 0 first + w
  pub linked : Linked w c (take (2 * c) s) (drop q s) j

-- with the parent r run j is linked too
pub record Parented (w c q : ℕ) (s s' : List ℕ) (j r : ℕ) : Type 0 where
  pub kept : Kept q s s'
  pub low : r ≤ j
  pub linked : Linked w c (take (2 * c) s) (set (drop q s') j r) (suc j)

-- r is the first run, from i up to `to`, that does not end left of the dot `start`
pub record Skipped (i to start : ℕ) (t : List ℕ) (r : ℕ) : Type 0 where
  pub from : i ≤ r
  pub upto : r ≤ to
  pub left : (a : ℕ) → i ≤ a → a < r → end_of t 0 a < start
  pub here : r < to → start ≤ end_of t 0 r

-- run j is linked too, and the runs before r touch none from j on
pub record LinkedOne (w c q : ℕ) (s s' : List ℕ) (i to j r : ℕ) : Type 0 where
  pub kept : Kept q s s'
  pub from : i ≤ r
  pub upto : r ≤ to
  pub left : (a k : ℕ) → a < r → j ≤ k → k < c → touching w (take (2 * c) s) a k ≡ false
  pub linked : Linked w c (take (2 * c) s) (drop q s') (suc j)

-- the runs of a row stand from `here` up to `next`, those of the row above from `above` up to `here`
pub record Rows (w c : ℕ) (t : List ℕ) (above here next : ℕ) : Type 0 where
  pub low : above ≤ here
  pub mid : here ≤ next
  pub high : next ≤ c
  pub far : (a j : ℕ) → a < above → here ≤ j → j < c → touching w t a j ≡ false
  pub rows : (a j : ℕ) → above ≤ a → a < here → here ≤ j → j < next → start_of t a / w + 1 ≡ start_of t j / w
  pub beside : (a j : ℕ) → here ≤ a → a < j → j < next → touching w t a j ≡ false

-- what linking a row asks
pub record RowLinkable (w c q : ℕ) (s : List ℕ) (above here next : ℕ) : Type 0 where
  pub list : KnownRuns w c q s
  pub rows : Rows w c (take (2 * c) s) above here next
  pub linked : Linked w c (take (2 * c) s) (drop q s) here

-- the runs below j are linked
pub record LinkedTo (w c q : ℕ) (s s' : List ℕ) (j : ℕ) : Type 0 where
  pub kept : Kept q s s'
  pub linked : Linked w c (take (2 * c) s) (drop q s') j

-- r is the first run, from k on, that starts at dot `limit` or later
pub record RowEnd (c k limit : ℕ) (t : List ℕ) (r : ℕ) : Type 0 where
  pub from : k ≤ r
  pub upto : r ≤ c
  pub inside : (a : ℕ) → k ≤ a → a < r → start_of t a < limit
  pub past : r < c → limit ≤ start_of t r

-- what linking a row asks: the runs from `here` on that start before dot `limit` are its own
pub record RowAhead (w c q limit : ℕ) (s : List ℕ) (above here : ℕ) : Type 0 where
  pub low : here ≤ c
  pub rows : (next : ℕ) → here ≤ next → next ≤ c → ((a : ℕ) → here ≤ a → a < next → start_of s a < limit) → RowLinkable w c q s above here next

-- a row from `here` up to r is linked
pub record RowLinked (w c q limit : ℕ) (s s' : List ℕ) (here r : ℕ) : Type 0 where
  pub row : RowEnd c here limit s r
  pub linked : LinkedTo w c q s s' r

-- a mask within the limits, and room for a parent for each dot from word q on, behind every word that extraction may change: the turns of all rows
-- and one more
pub record LinkRoom (w h : ℕ) (m s : List ℕ) (q : ℕ) : Type 0 where
  pub plane : PlaneRoom w h m s
  pub place : h * row_words w < q
  pub room : q + w * h ≤ length s

-- the words hold the runs of a mask and, from word q on, their parents, which lead each run to the first of its component
pub record LinkedRuns (w h : ℕ) (m s s' : List ℕ) (q c : ℕ) : Type 0 where
  pub runs : Extracted w h m s s' c
  pub place : 2 * c ≤ q
  pub room : q + c ≤ length s'
  pub forest : Forest (first_run w c (take (2 * c) s')) (drop q s') c

-- each run's parents lead to the first run of its component
pub record AllLinked (w c : ℕ) (s s' : List ℕ) : Type 0 where
  pub kept : Kept (2 * c) s s'
  pub forest : Forest (first_run w c (take (2 * c) s)) (drop (2 * c) s') c

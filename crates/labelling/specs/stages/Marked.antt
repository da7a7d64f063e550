-- Which dots count, by a byte of ink and a mark for each dot: the test that extraction takes.
use Rattle.std.specs.Prelude.{◌≡◌, Bool, cond, ◌&&◌, List, ℕ, ◌+◌, ◌*◌, ◌%◌, ◌≤◌, ◌<◌, get_or, length, take, drop, eqb, ltb}
use Rattle.memory.specs.rules.Lists.{table}
use Rattle.memory.specs.rules.Limits.{max_mask_side, max_mask_dots}
use Rattle.memory.specs.rules.Masks.{is_ink}
use Rattle.labelling.specs.stages.Extraction.{row_words, ScanRoom, Scanned, RowRoom, RowExtracted}
use Rattle.labelling.specs.stages.Sizes.{HoldsRuns}
use Rattle.labelling.specs.declared.marked.Test.{Test}
use Rattle.labelling.specs.declared.marked.Test.TheVariants.{First, Second, Neither}

-- ink whose mark has its first bit, its second bit, or none
abbrev pub passes : Test → Bool → ℕ → Bool
passes First ink mark = ink && eqb (mark % 2) 1
passes Second ink mark = ink && ltb 1 mark
passes Neither ink mark = ink && eqb mark 0

-- the mask of the n dots that pass
unfoldable pub passing : Test → List ℕ → List ℕ → ℕ → List ℕ
passing t ink marks n = table (λ i. cond (passes t (is_ink ink i) (get_or marks i 0)) 1 0) n

-- the same of a row, whose first dot is `base`
abbrev pub row_passing : Test → List ℕ → List ℕ → ℕ → List ℕ
row_passing t ink marks base = passing t ink (drop base marks) (length ink)

-- dots of a row, a mark for each, and room before the marks for a turn at each
pub record MarkedScanRoom (t : Test) (ink : List ℕ) (from to base : ℕ) (s : List ℕ) (at marks : ℕ) : Type 0 where
  pub asks : ScanRoom (row_passing t ink (drop marks s) base) from to base (take marks s) at
  pub marked : marks + base + to ≤ length s

-- they are read; marks, and all past them, are as they were
pub record MarkedScanned (t : Test) (ink : List ℕ) (from to base : ℕ) (s s' : List ℕ) (at marks r : ℕ) : Type 0 where
  pub len : length s' ≡ length s
  pub scanned : Scanned (row_passing t ink (drop marks s) base) from to base (take marks s) (take marks s') at r
  pub kept : drop marks s' ≡ drop marks s

-- a row within the limits, a mark for each of its dots, and room before the marks for its turns
pub record MarkedRowRoom (t : Test) (ink : List ℕ) (base : ℕ) (s : List ℕ) (at marks : ℕ) : Type 0 where
  pub asks : RowRoom (row_passing t ink (drop marks s) base) base (take marks s) at
  pub marked : marks + base + length ink ≤ length s

-- its turns stand from `at` up to r; marks, and all past them, are as they were
pub record MarkedRowLeft (t : Test) (ink : List ℕ) (base : ℕ) (s s' : List ℕ) (at marks r : ℕ) : Type 0 where
  pub len : length s' ≡ length s
  pub extracted : RowExtracted (row_passing t ink (drop marks s) base) base (take marks s) (take marks s') at r
  pub kept : drop marks s' ≡ drop marks s

-- a plane of ink within the limits, a mark for each dot from word `marks` on, and room for runs before
pub record MarkedRoom (w h : ℕ) (ink s : List ℕ) (marks : ℕ) : Type 0 where
  pub wide : 0 < w
  pub narrow : w ≤ max_mask_side
  pub low : h ≤ max_mask_side
  pub dots : w * h ≤ max_mask_dots
  pub whole : length ink ≡ w * h
  pub before : h * row_words w ≤ marks
  pub room : marks + w * h ≤ length s

-- the words start with the c runs of the dots that pass; marks, and all past them, are as they were
pub record MarkedLeft (t : Test) (w h : ℕ) (ink s s' : List ℕ) (marks c : ℕ) : Type 0 where
  pub len : length s' ≡ length s
  pub held : HoldsRuns w h (passing t ink (drop marks s) (w * h)) s' c
  pub kept : drop marks s' ≡ drop marks s

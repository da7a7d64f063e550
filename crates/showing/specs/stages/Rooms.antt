-- The memory that a page to 16 × 16 is worked on in: under a slope of 1 it is moved into a frame of 46 × 31.
use Rattle.std.specs.Prelude.{ℕ, ◌*◌, ◌≤◌, ◌≡◌, List, length}
use Rattle.memory.specs.rules.Words.{word_at}
use Rattle.showing.specs.rules.Inputs.{max_shown_side}

-- the longest input that is well made: 16 rows of 4 digits
abbrev pub longest_input : ℕ
longest_input = 121

-- the most dots of a page, and of its frame
abbrev pub most_dots : ℕ
most_dots = max_shown_side * max_shown_side

abbrev pub shown_dots : ℕ
shown_dots = 1426

abbrev pub shown_store : ℕ
shown_store = 2763

abbrev pub shown_scratch : ℕ
shown_scratch = 6792

-- the most bytes that are printed (`shown-short` of proofs/ShortLaws.antt)
abbrev pub longest_shown : ℕ
longest_shown = 11474

-- an empty store, two planes and scratch, long enough for each such page
pub record ShownRoom (store ink kinds scratch : List ℕ) : Type 0 where
  pub empty : word_at store 0 ≡ 0
  pub words : shown_store ≤ length store
  pub ink_dots : shown_dots ≤ length ink
  pub kind_dots : shown_dots ≤ length kinds
  pub room : shown_scratch ≤ length scratch

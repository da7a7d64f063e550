-- Demand 3, clause by clause: what holds after any list of calls on one store, empty at first, and its planes.
use Rattle.std.specs.Prelude.{◌≡◌, List, [], ◌∷◌, ℕ, ◌+◌, ◌*◌, ◌≤◌, ◌<◌, get_or, take}
use Rattle.memory.specs.rules.Limits.{store_words, scratch_words}
use Rattle.memory.specs.rules.Lists.{occurs}
use Rattle.memory.specs.rules.Words.{word_at}
use Rattle.params.specs.declared.LayoutParams.{LayoutParams}
use Rattle.levelling.specs.rules.Pairs.{InkPairs}
use Rattle.judging.specs.rules.Header.{empty_state, figures_at}
use Rattle.judging.specs.rules.Leaves.{Leaf, levelling_of, layout_of}
use Rattle.judging.specs.rules.Views.{ink_dots_at, view_of, view_of_layout}
use Rattle.store.specs.rules.Outcomes.{Told}
use Rattle.account.specs.rules.Calls.{Lent, Call, call, World, lengths, run}
use Rattle.account.specs.rules.Calls.Act.{level, segment}
use Rattle.account.specs.rules.Accounts.{Account, held_by, tell, next, account, replies}
use Rattle.account.specs.rules.Accounts.Account.{nothing, levelled, segmented}

-- no call of the list is told 16
abbrev pub Never : Account → List Call → Type 0
Never m [] = Unit {0}
Never m (c ∷ cs) = (tell m c.lent c.act ≡ 16 → ⊥) × Never (next m c) cs

-- from an accepted levelling to the next accepted clearing: the ink plane's frame is the mask levelled, and no dot of ink is lost, invented or doubled
pub record Inked (a : Leaf) (v : World) : Type 0 where
  pub plane : take ((levelling_of a).frame.w * (levelling_of a).frame.h) v.ink ≡ (levelling_of a).ink
  pub pairs : InkPairs (levelling_of a).frame a.mask v.ink

abbrev pub InkHeld : Account → World → Type 0
InkHeld nothing v = Unit {0}
InkHeld (levelled a) v = Inked a v
InkHeld (segmented a sheet) v = Inked a v

-- "after an accepted segmentation since"

-- each ink dot of the frame has exactly one of the five sorts, and a blank dot has 0
pub record OneSort (dots : ℕ) (ink kinds : List ℕ) : Type 0 where
  pub sorted : (i : ℕ) → i < dots → get_or ink i 0 ≡ 1 → (0 < get_or kinds i 0) × (get_or kinds i 0 ≤ 5)
  pub blank : (i : ℕ) → i < dots → get_or ink i 0 ≡ 0 → get_or kinds i 0 ≡ 0

-- memory that levelling the leaf and segmenting it ask
pub record Enough (a : Leaf) (l : Lent) (scratch : ℕ) : Type 0 where
  pub store : store_words a.w (levelling_of a).frame.w (levelling_of a).frame.h a.capacity ≤ l.store
  pub ink : (levelling_of a).frame.w * (levelling_of a).frame.h ≤ l.ink
  pub kinds : (levelling_of a).frame.w * (levelling_of a).frame.h ≤ l.kinds
  pub scratch_room : scratch_words ((levelling_of a).frame.w * (levelling_of a).frame.h) a.capacity ≤ scratch

-- the two calls of a fresh start
abbrev pub afresh_calls : Leaf → LayoutParams → Lent → ℕ → List Call
afresh_calls a sheet l scratch = call l (level a) ∷ call l (segment sheet scratch) ∷ []

-- on another store, empty at first, with enough memory: both are accepted and give the same view
pub record Afresh (a : Leaf) (sheet : LayoutParams) (v u : World) (scratch : ℕ) : Type 0 where
  pub accepted : account nothing (afresh_calls a sheet (lengths u) scratch) ≡ segmented a sheet
  pub same : view_of v.store v.kinds ≡ view_of (run u (afresh_calls a sheet (lengths u) scratch)).store (run u (afresh_calls a sheet (lengths u) scratch)).kinds

-- the dots of a kind that the store tells, 0 for all ink
abbrev pub dots_word : World → ℕ → ℕ
dots_word v k = word_at v.store (figures_at + (ink_dots_at + k))

pub record Resulted (a : Leaf) (sheet : LayoutParams) (v : World) : Type 0 where
  -- sort plane, unit, lists and counts are what the rules give for the two alone
  pub by_rules : view_of v.store v.kinds ≡ view_of_layout (levelling_of a).frame (levelling_of a).skew (layout_of a sheet)
  -- each ink dot has exactly one of five sorts
  pub one_sort : OneSort ((levelling_of a).frame.w * (levelling_of a).frame.h) v.ink v.kinds
  -- ink = cut + rule + graphic + glyph + speck, ink being counted in the mask handed in
  pub ink : dots_word v 0 ≡ occurs 1 a.mask
  pub sum : occurs 1 a.mask ≡ dots_word v 1 + dots_word v 2 + dots_word v 3 + dots_word v 4 + dots_word v 5
  -- the results are exactly those of the same mask levelled afresh
  pub afresh : (u : World) (scratch : ℕ) → word_at u.store 0 ≡ empty_state → Enough a (lengths u) scratch → Afresh a sheet v u scratch

abbrev pub ResultsHeld : Account → World → Type 0
ResultsHeld nothing v = Unit {0}
ResultsHeld (levelled a) v = Unit {0}
ResultsHeld (segmented a sheet) v = Resulted a sheet v

-- the calls cs, their answers rs and what they leave, v, held against the account fed with the calls alone
pub record Claim (cs : List Call) (rs : List Told) (v : World) : Type 0 where
  -- each call's own outcome equals what the account tells: its number, its value, what it fills
  pub outcomes : rs ≡ replies nothing cs
  -- never 16
  pub never : Never nothing cs
  -- 0, 1 or 2 as the account holds nothing, a levelling, or both
  pub state : word_at v.store 0 ≡ (held_by (account nothing cs)).state
  pub ink : InkHeld (account nothing cs) v
  pub results : ResultsHeld (account nothing cs) v

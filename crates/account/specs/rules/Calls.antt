-- The calls on one store and its planes, and what each leaves and answers: the entries' own outcomes (01, demand 3's paragraph).
use Rattle.std.specs.Prelude.{List, [], ◌∷◌, ℕ, ◌≤◌, T, length, take}
use Rattle.std.specs.Float.Ieee.{fits}
use Rattle.std.specs.Float.{binary64}
use Rattle.memory.specs.rules.Words.{over}
use Rattle.params.specs.declared.LayoutParams.{LayoutParams}
use Rattle.judging.specs.rules.Leaves.{Leaf}
use Rattle.store.specs.rules.Readings.{LevelReading, ResultReading}
use Rattle.store.specs.rules.Readings.Output.{none}
use Rattle.store.specs.rules.Outcomes.{level_left, segment_left, clear_left, Told, level_told, result_told}

-- how much of the store, of the ink plane and of the plane of kinds a call is lent: front parts of one memory
pub record Lent : Type 0 where
  pub store : ℕ
  pub ink : ℕ
  pub kinds : ℕ

-- what a call is handed, and what it is lent of its own: levelling, segmenting with so many words of scratch, clearing, readings
pub data Act : Type 0 where
  level : Leaf → Act
  segment : LayoutParams → ℕ → Act
  clear : Act
  read_level : LevelReading → Act
  read_result : ResultReading → Act

pub record Call : Type 0 where
  pub lent : Lent
  pub act : Act

abbrev pub call : Lent → Act → Call
call l a = record { lent = l; act = a }

-- one store and its planes
pub record World : Type 0 where
  pub store : List ℕ
  pub ink : List ℕ
  pub kinds : List ℕ

abbrev pub world : List ℕ → List ℕ → List ℕ → World
world s i k = record { store = s; ink = i; kinds = k }

abbrev pub lengths : World → Lent
lengths v = record { store = length v.store; ink = length v.ink; kinds = length v.kinds }

-- the front parts that a call is lent
abbrev pub front : Lent → World → World
front l v = world (take l.store v.store) (take l.ink v.ink) (take l.kinds v.kinds)

-- what it leaves there
abbrev pub leaves : Act → World → World
leaves (level a) u = world (level_left a u.store u.ink).store (level_left a u.store u.ink).plane u.kinds
leaves (segment sheet x) u = world (segment_left sheet u.store u.ink u.kinds x).store u.ink (segment_left sheet u.store u.ink u.kinds x).plane
leaves clear u = world (clear_left u.store).store u.ink u.kinds
leaves (read_level q) u = u
leaves (read_result q) u = u

-- a call that answers with its number alone
abbrev pub numbered : ℕ → Told
numbered n = record { number = n; value = 0; output = none }

-- what it answers
abbrev pub tells : Act → World → Told
tells (level a) u = numbered (level_left a u.store u.ink).number
tells (segment sheet x) u = numbered (segment_left sheet u.store u.ink u.kinds x).number
tells clear u = numbered (clear_left u.store).number
tells (read_level q) u = level_told q u.store
tells (read_result q) u = result_told q u.store u.ink u.kinds

-- parts put back: what lies past them is as it was
abbrev pub back : World → World → World
back u v = world (over u.store v.store) (over u.ink v.ink) (over u.kinds v.kinds)

-- one call: each gets what it takes as the call before left it
abbrev pub step : World → Call → World
step v c = back (leaves c.act (front c.lent v)) v

abbrev pub says : World → Call → Told
says v c = tells c.act (front c.lent v)

abbrev pub run : World → List Call → World
run v [] = v
run v (c ∷ cs) = run (step v c) cs

abbrev pub answers : World → List Call → List Told
answers v [] = []
answers v (c ∷ cs) = says v c ∷ answers (step v c) cs

-- a float that is handed is an f64
abbrev pub Doubles : Act → Type 0
Doubles (level a) = T (fits binary64 a.skew) × T (fits binary64 a.slope)
Doubles (segment sheet x) = T (fits binary64 sheet.xheight_fallback_px)
Doubles clear = Unit {0}
Doubles (read_level q) = Unit {0}
Doubles (read_result q) = Unit {0}

-- a call on memory of these lengths: what it is lent is there, and its floats are f64s
pub record Proper (l : Lent) (c : Call) : Type 0 where
  pub store : c.lent.store ≤ l.store
  pub ink : c.lent.ink ≤ l.ink
  pub kinds : c.lent.kinds ≤ l.kinds
  pub doubles : Doubles c.act

-- each call of a list
abbrev pub AllProper : Lent → List Call → Type 0
AllProper l [] = Unit {0}
AllProper l (c ∷ cs) = Proper l c × AllProper l cs

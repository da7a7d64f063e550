-- Smoothing on the runs of rows (01, part 7): what it asks and leaves, with the ink after the cut as runs in scratch.
use Rattle.std.specs.Prelude.{◌≡◌, List, ◌∷◌, Bool, true, cond, ℕ, suc, ◌+◌, ◌-◌, ◌*◌, ◌≤◌, ◌<◌, get_or, length, take, drop, set, eqb}
use Rattle.memory.specs.rules.Lists.{count_if}
use Rattle.memory.specs.rules.Limits.{max_frame_width, max_frame_height}
use Rattle.labelling.specs.rules.Labels.{labelling}
use Rattle.labelling.specs.stages.InkRuns.{ink_before, append_if, turns, run_count, run_of, start_of, end_of, is_root}
use Rattle.labelling.specs.stages.Linking.{first_run}
use Rattle.labelling.specs.stages.Sizes.{HoldsRuns, HoldsNumbers}
use Rattle.sorting.specs.rules.Kinds.{glyph_kind}
use Rattle.smoothing.specs.rules.Smoothing.{smoothed}
use Rattle.smoothing.specs.rules.Lines.{first_dot}
use Rattle.smoothing.specs.declared.smooth.Places.{Places}
use Rattle.smoothing.specs.declared.smooth.Walk.{Walk}
use Rattle.smoothing.specs.declared.smooth.GlyphRun.{GlyphRun}

-- dot i is one of a glyph, by the labels and the kinds ks of the components
unfoldable pub glyph_dot : List ℕ → List ℕ → ℕ → Bool
glyph_dot labels ks i = eqb (get_or (0 ∷ ks) (get_or labels i 0) 0) glyph_kind

-- run k of the mask m is one of a glyph
abbrev pub glyph_run : ℕ → ℕ → List ℕ → List ℕ → ℕ → Bool
glyph_run w h m ks k = glyph_dot (labelling w h m).labels ks (start_of (turns w m (w * h)) k)

-- how many runs are
abbrev pub glyph_runs : ℕ → ℕ → List ℕ → List ℕ → ℕ
glyph_runs w h m ks = count_if (glyph_run w h m ks) (run_count w m (w * h))

-- a plane of kinds has its glyph dots where the labels have glyphs
abbrev pub GlyphPlane : ℕ → ℕ → List ℕ → List ℕ → List ℕ → Type 0
GlyphPlane w h m ks plane = (i : ℕ) → i < w * h → eqb (get_or plane i 0) glyph_kind ≡ glyph_dot (labelling w h m).labels ks i

-- the runs of a mask with the numbers and kinds of their components, and room for the smoothed runs and a word for each component
pub record SmoothRoom (w h : ℕ) (m ks plane s : List ℕ) (c kinds firsts : ℕ) : Type 0 where
  pub wide : 0 < w
  pub narrow : w ≤ max_frame_width
  pub low : h ≤ max_frame_height
  pub numbered : HoldsNumbers w h m s c
  pub size : length ks ≡ length (labelling w h m).components
  pub kinds_held : take (length ks) (drop kinds s) ≡ ks
  pub plane_is : GlyphPlane w h m ks plane
  pub before : 3 * c + 3 * glyph_runs w h m ks ≤ kinds
  pub between : kinds + length ks ≤ firsts
  pub room : firsts + length ks ≤ length s

-- the runs of the smoothed mask stand behind the runs and their numbers, and for each glyph the smoothed run that has its first dot
pub record SmoothLeft (w h : ℕ) (m ks plane s s' : List ℕ) (c kinds firsts gap r : ℕ) : Type 0 where
  pub len : length s' ≡ length s
  pub front : take (3 * c) s' ≡ take (3 * c) s
  pub held : HoldsRuns w h (smoothed gap w h plane) (drop (3 * c) s') r
  pub fits : r ≤ glyph_runs w h m ks
  pub first : (k : ℕ) → k < length ks → get_or ks k 0 ≡ glyph_kind → get_or s' (firsts + k) 0 ≡ run_of w (smoothed gap w h plane) (first_dot (labelling w h m).labels (suc k))
  pub between : (i : ℕ) → 3 * c + 2 * glyph_runs w h m ks ≤ i → i < firsts → get_or s' i 0 ≡ get_or s i 0
  pub beyond : (i : ℕ) → firsts + length ks ≤ i → get_or s' i 0 ≡ get_or s i 0

-- The walk over the runs

-- the turns of the first n dots, and the end there of a run that goes on
unfoldable pub ended_turns : ℕ → List ℕ → ℕ → List ℕ
ended_turns w m n = append_if (ink_before w m n) n (turns w m n)

-- how many components the first j runs have
abbrev pub met_before : ℕ → ℕ → List ℕ → ℕ → ℕ
met_before w h m j = count_if (is_root (first_run w (run_count w m (w * h)) (turns w m (w * h)))) j

-- a page whose rows are smoothed: its words at the start
pub record SmoothingInput : Type 0 where
  pub w : ℕ
  pub h : ℕ
  pub m : List ℕ
  pub ks : List ℕ
  pub plane : List ℕ
  pub words : List ℕ
  pub c : ℕ
  pub kinds : ℕ
  pub firsts : ℕ
  pub gap : ℕ
  pub asks : SmoothRoom w h m ks plane words c kinds firsts

-- the smoothed mask of a page
abbrev pub smoothed_page : SmoothingInput → List ℕ
smoothed_page g = smoothed g.gap g.w g.h g.plane

-- where run k of a page starts
abbrev pub start_at : SmoothingInput → ℕ → ℕ
start_at g k = start_of (turns g.w g.m (g.w * g.h)) k

-- where it ends
abbrev pub end_at : SmoothingInput → ℕ → ℕ
end_at g k = end_of (turns g.w g.m (g.w * g.h)) 0 k

-- the number of its component
abbrev pub number_at : SmoothingInput → ℕ → ℕ
number_at g k = get_or (labelling g.w g.h g.m).labels (start_at g k) 0

-- a dot of a glyph of the page
abbrev pub glyph_of : SmoothingInput → ℕ → Bool
glyph_of g i = glyph_dot (labelling g.w g.h g.m).labels g.ks i

-- the words s keep what is handed in, but for the smoothed runs and the words of the components
pub record PageKept (g : SmoothingInput) (s : List ℕ) : Type 0 where
  pub len : length s ≡ length g.words
  pub low : (i : ℕ) → i < 3 * g.c → get_or s i 0 ≡ get_or g.words i 0
  pub between : (i : ℕ) → 3 * g.c + 2 * glyph_runs g.w g.h g.m g.ks ≤ i → i < g.firsts → get_or s i 0 ≡ get_or g.words i 0
  pub beyond : (i : ℕ) → g.firsts + length g.ks ≤ i → get_or s i 0 ≡ get_or g.words i 0

-- the first j runs are passed, those of the rows before y and some of row y: the last glyph run among them ends at dot n
pub record Passed (g : SmoothingInput) (y j n : ℕ) : Type 0 where
  pub row : y ≤ g.h
  pub upto : j ≤ g.c
  pub next : (k : ℕ) → j ≤ k → k < g.c → (y * g.w ≤ start_at g k) × (n ≤ start_at g k)
  pub inside : (n ≤ y * g.w + g.w) × (n ≤ g.w * g.h)
  pub clear : (i : ℕ) → n ≤ i → i < g.w * g.h → glyph_of g i ≡ true → j ≤ run_of g.w g.m i
  pub on : 0 < n → glyph_of g (n - 1) ≡ true

-- their smoothed runs, r in all, stand in the words s; `last` is n where it lies in row y, else 0; `newest` is the greatest number of
-- a glyph among them
pub record RowWalk (g : SmoothingInput) (s : List ℕ) (y j r newest last : ℕ) : Type 0 where
  pub kept : PageKept g s
  pub end : ℕ
  pub passed : Passed g y j end
  pub none : last ≡ 0 → end ≤ y * g.w
  pub some : 0 < last → (last ≡ end) × (y * g.w < end)
  pub runs : take (2 * r) (drop (3 * g.c) s) ≡ ended_turns g.w (smoothed_page g) end
  pub fits : r ≤ count_if (glyph_run g.w g.h g.m g.ks) j
  pub met : newest ≤ met_before g.w g.h g.m j
  pub glyphs_met : (k : ℕ) → k < met_before g.w g.h g.m j → get_or g.ks k 0 ≡ glyph_kind → k < newest
  pub first : (k : ℕ) → k < newest → get_or g.ks k 0 ≡ glyph_kind
      → get_or s (g.firsts + k) 0 ≡ run_of g.w (smoothed_page g) (first_dot (labelling g.w g.h g.m).labels (suc k))

-- the same as the code has it
pub record PageWalk (g : SmoothingInput) (s : List ℕ) (places : Places) (gap y : ℕ) (walk : Walk) : Type 0 where
  pub gap_is : gap ≡ g.gap
  pub numbers_is : places.numbers ≡ 2 * g.c
  pub smoothed_is : places.smoothed ≡ 3 * g.c
  pub kinds_is : places.kinds ≡ g.kinds
  pub firsts_is : places.firsts ≡ g.firsts
  pub walked : RowWalk g s y walk.passed walk.smoothed walk.newest walk.last

-- the walk at the start of a row
abbrev pub row_start : Walk → Walk
row_start walk = record { passed = walk.passed; smoothed = walk.smoothed; newest = walk.newest; last = 0 }

-- Rows

-- the runs from `first` on that start before dot `limit`, of c in the words s, are those up to `end`
pub record RowEnd (s : List ℕ) (first c limit end : ℕ) : Type 0 where
  pub low : first ≤ end
  pub high : end ≤ c
  pub inside : (j : ℕ) → first ≤ j → j < end → get_or s (2 * j) 0 < limit
  pub past : end < c → limit ≤ get_or s (2 * end) 0

-- the runs from `first` to `end` of a page are in row y
pub record RowOf (g : SmoothingInput) (y first end : ℕ) : Type 0 where
  pub row : y < g.h
  pub low : first ≤ end
  pub high : end ≤ g.c
  pub inside : (j : ℕ) → first ≤ j → j < end → start_at g j < y * g.w + g.w

-- the kind of run j of a row, by the numbers of its runs and all kinds
abbrev pub kind_of : List ℕ → List ℕ → ℕ → ℕ
kind_of numbers kinds j = get_or kinds (get_or numbers j 0 - 1) 0

-- a row's runs, the numbers of their components and all kinds
pub record RowParts (row numbers kinds : List ℕ) : Type 0 where
  pub runs : length row ≡ 2 * length numbers
  pub known : (j : ℕ) → j < length numbers → (0 < get_or numbers j 0) × (get_or numbers j 0 ≤ length kinds)

-- run j of a row, where it is one of a glyph; else its number is 0
pub record RunOfGlyph (row numbers kinds : List ℕ) (j : ℕ) (run : GlyphRun) : Type 0 where
  pub other : run.number ≡ 0 → kind_of numbers kinds j ≡ glyph_kind → ⊥
  pub glyph : 0 < run.number → kind_of numbers kinds j ≡ glyph_kind
  pub number : 0 < run.number → run.number ≡ get_or numbers j 0
  pub start : 0 < run.number → run.start ≡ get_or row (2 * j) 0
  pub end : 0 < run.number → run.end ≡ get_or row (2 * j + 1) 0

-- `run` is run j of a page, of a glyph and in row y
pub record GlyphAt (g : SmoothingInput) (y j : ℕ) (run : GlyphRun) : Type 0 where
  pub row : y < g.h
  pub within : j < g.c
  pub here : start_at g j < y * g.w + g.w
  pub glyph : glyph_of g (start_at g j) ≡ true
  pub number : run.number ≡ number_at g j
  pub start : run.start ≡ start_at g j
  pub end : run.end ≡ end_at g j

-- a glyph run more, joined with the last smoothed run or not
pub record RunAdded (s s' : List ℕ) (at r start end : ℕ) (joins : Bool) (r' : ℕ) : Type 0 where
  pub len : length s' ≡ length s
  pub count : r' ≡ cond joins r (r + 1)
  pub words : s' ≡ cond joins (set s (at + 2 * r - 1) end) (set (set s (at + 2 * r) start) (at + 2 * r + 1) end)

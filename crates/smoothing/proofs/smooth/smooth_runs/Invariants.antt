use mathlib.Core.Path.{◌≡◌}
use mathlib.Core.List.{List}
use Prim.Native.Nat.{ℕ, ◌*◌}
use Rattle.smoothing.specs.stages.RowRuns.{SmoothRoom, PageWalk, row_start}
use Rattle.smoothing.proofs.PageWalkLaws.{page_of}
use Rattle.smoothing.proofs.smooth.smooth_runs.Given as goal

abbrev pub invariant-loop-y : goal.invariant-loop-y
invariant-loop-y l = (l.limit ≡ l._y * l.w) × ((m ks plane : List ℕ) (a : SmoothRoom l.w l.h m ks plane l.initial.words l.c l.kinds l.firsts) → PageWalk (page_of l.w l.h m ks plane l.initial.words l.c l.kinds l.firsts l.gap a) l.words l.places l.gap l._y (row_start l.walk))

use mathlib.Core.Path.{◌≡◌}
use mathlib.Core.Bool.{Bool}
use mathlib.Core.List.{List}
use Prim.Native.Nat.{ℕ}
use Rattle.levelling.specs.stages.Held.{frame_moved}
use Rattle.levelling.specs.stages.Moves.{partly, or_rows}
use Rattle.levelling.proofs.page_plane.PagePlane.move_tile.Given as goal

abbrev pub invariant-loop-y : goal.invariant-loop-y
invariant-loop-y l =
    (done : ℕ → Bool) (s : List ℕ) → l.initial.out ≡ partly (frame_moved l.self) l.self.fill l.self.page.now done s → l.out ≡ partly (frame_moved l.self) l.self.fill l.self.page.now (or_rows done l.self.sides.page_w l.c l.n l.y) s

use mathlib.Core.Bool.{true≢false}
use Prim.Native.Nat.{◌+◌}
use native.Mathlib.Omega.{arith}
use lib.Seq.{take-set-le}
use Rattle.rulings.proofs.ColumnLaws.{place-cut}
use Rattle.rulings.proofs.plane.Rulings.cut_place.Goals as goal

pub returns-then-is_thin : goal.returns-then-is_thin
returns-then-is_thin c =
    let a = c.args in (
      place-cut a.self.plane.sweep a.self.plane.ink.now a.self.thick_max a.i a.o a.self.marks a.words.now c.spot.result c.is_thin.result c.is_thin.ensures c.if-is_thin.true c.spot.ensures,
      take-set-le a.self.marks a.words.now (a.self.marks + c.spot.result) _ (omega arith),
      λ e. absurd (true≢false e),
    )

use Prim.Native.Nat.{◌*◌}
use Rattle.levelling.specs.stages.Moves.{MovesPart}
use Rattle.levelling.proofs.tiles.PiecesWay.move_part.Given as goal

abbrev pub invariant-loop-piece : goal.invariant-loop-piece
invariant-loop-piece g l = MovesPart l.plane.sides.page_w l.plane.shear.now l.plane.shear_x.now l.plane.sides.w l.plane.fill l.plane.page.now l.part.y l.part.c (l.piece * g.row.N) l.initial.out l.out

use Rattle.levelling.specs.stages.Moves.{MovesPart}
use Rattle.levelling.proofs.tiles.DotsWay.move_part.Given as goal

abbrev pub invariant-loop-i : goal.invariant-loop-i
invariant-loop-i l = MovesPart l.plane.sides.page_w l.plane.shear.now l.plane.shear_x.now l.plane.sides.w l.plane.fill l.plane.page.now l.part.y l.part.c l.i l.initial.out l.out

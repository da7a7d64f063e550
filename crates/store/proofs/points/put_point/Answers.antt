use Rattle.store.proofs.PointLaws.{small_word, point-put}
use Rattle.store.proofs.points.put_point.Goals as goal

-- `store::points::put_point` meets its contract. Assumes nothing.

pub overflow_cast-point : goal.overflow_cast-point
overflow_cast-point c = small_word c.args.p.x c.requires.1

pub overflow_cast-point-2 : goal.overflow_cast-point-2
overflow_cast-point-2 c = small_word c.args.p.y c.requires.2

pub returns : goal.returns
returns c = point-put c.args.point.now c.args.p.x c.args.p.y c.requires.1 c.requires.2 c.requires.0

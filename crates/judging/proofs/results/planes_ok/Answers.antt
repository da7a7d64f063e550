use native.Mathlib.Omega.{arith}
use Rattle.judging.proofs.ResultLaws.{every-none, every_more, planes-is}
use Rattle.judging.proofs.results.planes_ok.Goals as goal

-- `judging::results::planes_ok` meets its contract. Assumes nothing.

pub loop-i-init : goal.loop-i-init
loop-i-init c = (omega arith, every-none _)

pub loop-i-preserved : goal.loop-i-preserved
loop-i-preserved c =
    (omega arith, every_more _ c.loop-i.i c.loop-i.ok c.dot_ok-right.result c.loop-i.invariant.1 c.dot_ok-right.ensures)

pub returns : goal.returns
returns c =
    let a = c.args in
    planes-is a.ink.now a.kinds.now a.n c.loop-i.i c.loop-i.ok c.requires.0 (omega arith) c.loop-i.invariant.1

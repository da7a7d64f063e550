use mathlib.Core.Path.{◌≡◌, ap, ◌∙◌}
use native.Mathlib.Omega.{arith}
use Rattle.judging.specs.rules.Spoiled.{every}
use Rattle.judging.proofs.ResultLaws.{every-none, every_more}
use Rattle.judging.proofs.results.each_ok.Goals as goal

pub loop-i-init : goal.loop-i-init
loop-i-init g c = λ p h. every-none p

pub loop-i-preserved : goal.loop-i-preserved
loop-i-preserved g c = λ p h. every_more p c.loop-i.i c.loop-i.ok c.test-ok.result (c.loop-i.invariant p h) (h c.loop-i.i c.test-ok.result c.loop-i-test.true c.test-ok.ensures)

pub returns : goal.returns
returns g c = λ p h. let e : c.loop-i.i ≡ c.args.r.n = omega arith in c.loop-i.invariant p h ∙ ap (every p) e

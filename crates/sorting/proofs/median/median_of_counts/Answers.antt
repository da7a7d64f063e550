use native.Mathlib.Omega.{arith}
use mathlib.Core.Path.{◌≡◌, refl, ap, ◌∙◌}
use lib.ListN.{length, take}
use Rattle.memory.specs.rules.Lists.{total}
use Rattle.sorting.proofs.Medians.{counts-median, counts-none, counts-loop}
use Rattle.sorting.proofs.median.median_of_counts.Goals as goal

pub loop-v-init : goal.loop-v-init
unfolding total
loop-v-init c = (omega arith, refl)

pub returns-then-half-more : goal.returns-then-half-more
returns-then-half-more c = let a = c.args in λ s C. counts-median a.counts.now s a.total c.loop-v.v C (omega arith) (omega (arith, c.loop-v.invariant.1)) (omega (arith, c.loop-v.invariant.1))

pub loop-v-preserved : goal.loop-v-preserved
loop-v-preserved c = let a = c.args in (omega arith, counts-loop a.counts.now c.loop-v.v c.loop-v.below (omega arith) c.loop-v.invariant.1)

pub returns : goal.returns
returns c = let a = c.args in λ s C. counts-none a.counts.now s a.total C (let e : c.loop-v.v ≡ length a.counts.now = omega arith in let d = c.loop-v.invariant.1 ∙ ap (λ k. total (take k a.counts.now)) e in omega arith)

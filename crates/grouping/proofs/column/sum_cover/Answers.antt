use mathlib.Core.Path.{refl}
use lib.ListN.{length-set}
use Rattle.grouping.proofs.CoverSums.{summed-none, summed-here, summed-ended, summed-more, summed-all}
use native.Mathlib.Omega.{arith}
use Rattle.grouping.proofs.column.sum_cover.Goals as goal

pub loop-x-init : goal.loop-x-init
loop-x-init c = (refl, λ f s. summed-none _ _ f s)

pub overflow_add-depth : goal.overflow_add-depth
overflow_add-depth c = omega (arith, summed-here c.args.w c.args.counts.now c.requires.0.0 c.requires.0.1 c.loop-x.counts c.loop-x.depth c.loop-x.busiest c.loop-x.x (c.loop-x.invariant.1 c.requires.0.0 c.requires.0.1) (omega arith), c.requires.0.1.fits c.loop-x.x)

pub overflow_sub-depth : goal.overflow_sub-depth
overflow_sub-depth c = summed-ended c.args.w c.args.counts.now c.requires.0.0 c.requires.0.1 c.loop-x.counts c.loop-x.depth c.loop-x.busiest c.loop-x.x (c.loop-x.invariant.1 c.requires.0.0 c.requires.0.1) (omega arith)

pub loop-x-preserved : goal.loop-x-preserved
loop-x-preserved c = (simp length-set c.loop-x.invariant.0, λ f s. rw c.max-busiest.ensures (summed-more c.args.w c.args.counts.now f s c.loop-x.counts c.loop-x.depth c.loop-x.busiest c.loop-x.x (c.loop-x.invariant.1 f s) (omega arith)))

pub returns : goal.returns
returns c = λ f s. summed-all c.args.w c.args.counts.now f c.loop-x.counts c.loop-x.depth c.loop-x.busiest c.loop-x.x (c.loop-x.invariant.1 f s) c.loop-x-test.false

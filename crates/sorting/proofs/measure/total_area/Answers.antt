use native.Mathlib.Omega.{arith}
use Rattle.sorting.proofs.AreaLaws.{areas-none, areas-more, areas-fit}
use Rattle.sorting.proofs.measure.total_area.Goals as goal

pub loop-k-init : goal.loop-k-init
loop-k-init c = areas-none (c).args.words.now (c).args.sizes

pub overflow_add-sum-in-loop-k : goal.overflow_add-sum-in-loop-k
overflow_add-sum-in-loop-k c = let a = areas-fit c.args.words.now c.args.sizes c.loop-k.k c.args.count c.loop-k.sum (omega arith) c.loop-k.invariant in let p = c.requires.1 in omega arith

pub loop-k-preserved : goal.loop-k-preserved
loop-k-preserved c = areas-more c.args.words.now c.args.sizes c.loop-k.k c.loop-k.sum c.loop-k.invariant

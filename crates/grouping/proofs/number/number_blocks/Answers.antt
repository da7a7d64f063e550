use Prim.Native.Nat.{zero-le}
use mathlib.Core.Path.{refl, ◌∙◌}
use Rattle.grouping.proofs.NumberLaws.{rest_at, number-rest, numbered-none, numbered_more}
use native.Mathlib.Omega.{arith}
use Rattle.grouping.proofs.number.number_blocks.Goals as goal

pub loop-i-init : goal.loop-i-init
loop-i-init c = (refl, zero-le, refl, λ fs F l. numbered-none fs _)

pub number_one-count-requires : goal.number_one-count-requires
number_one-count-requires c = (omega arith, let e = rest_at c.loop-i.i c.loop-i.parents c.args.parents.now c.loop-i.invariant.2 in let d = c.requires.2 c.loop-i.i (omega arith) in omega arith, omega arith)

pub loop-i-preserved : goal.loop-i-preserved
loop-i-preserved c = let (a, b, d) = number-rest c.loop-i.parents c.number_one-count.new.parents c.args.parents.now c.loop-i.i c.loop-i.count c.number_one-count.result c.number_one-count.ensures c.loop-i.invariant.2 in (b ∙ c.loop-i.invariant.0, omega arith, a, λ fs F l. numbered_more fs c.args.parents.now c.args.n F l c.requires.0 c.loop-i.parents c.number_one-count.new.parents c.loop-i.count c.number_one-count.result c.loop-i.i (omega arith) (c.loop-i.invariant.3 fs F l) c.number_one-count.ensures)

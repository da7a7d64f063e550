use borrow.Author.Rules.{scaled_Fits}
use native.Mathlib.Omega.{arith}
use lib.ListN.{length-set}
use Rattle.union_find.proofs.HalvingLaws.{walk_start, walk-low, walk-in, walk-in', walk-in₀, walk-in-q₀, walk_end, walk-next, walk_step}
use Rattle.union_find.proofs.find.Goals as goal

pub loop-parent-init : goal.loop-parent-init
loop-parent-init c = walk_start _ _ c.requires.0 c.requires.1

pub offset_bounds-parents-parent : goal.offset_bounds-parents-parent
offset_bounds-parents-parent c = scaled_Fits _ _ 4 (walk-in-q₀ c.loop-parent.invariant) c.well_formed.0.1

pub bounds-parents-parent : goal.bounds-parents-parent
bounds-parents-parent c = walk-in' c.loop-parent.invariant

pub offset_bounds-parents-i-in-loop-parent : goal.offset_bounds-parents-i-in-loop-parent
offset_bounds-parents-i-in-loop-parent c = scaled_Fits _ _ 4 (walk-in₀ c.loop-parent.invariant) c.well_formed.0.1

pub bounds-parents-i-in-loop-parent : goal.bounds-parents-i-in-loop-parent
bounds-parents-i-in-loop-parent c = walk-in c.loop-parent.invariant

pub offset_bounds-parents-i-in-loop-parent-2 : goal.offset_bounds-parents-i-in-loop-parent-2
offset_bounds-parents-i-in-loop-parent-2 c = scaled_Fits _ _ 4 (let w = walk-next c.loop-parent.invariant in let v = walk-in-q₀ c.loop-parent.invariant in omega arith) c.well_formed.0.1

pub bounds-parents-i-in-loop-parent-2 : goal.bounds-parents-i-in-loop-parent-2
bounds-parents-i-in-loop-parent-2 c = simp length-set (let w = walk-next c.loop-parent.invariant in let v = walk-in' c.loop-parent.invariant in omega arith)

pub loop-parent-smaller : goal.loop-parent-smaller
loop-parent-smaller c = let h = c.loop-parent.invariant in let w = walk-next h in let v = walk-low h in let n = c.loop-parent-test.true in omega arith

pub loop-parent-preserved : goal.loop-parent-preserved
loop-parent-preserved c = walk_step c.loop-parent.invariant c.loop-parent-test.true

pub returns : goal.returns
returns c = walk_end c.loop-parent.invariant c.loop-parent-test.false

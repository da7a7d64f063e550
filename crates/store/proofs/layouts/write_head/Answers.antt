use native.Mathlib.Omega.{arith}
use lib.ListN.{length-set}
use Rattle.store.proofs.HeadLaws.{head-room, head-written}
use Rattle.store.proofs.layouts.write_head.Goals as goal

-- `store::layouts::write_head` meets its contract: the state, then fifteen words. Assumes nothing.

pub slice_bounds-write_figures-count : goal.slice_bounds-write_figures-count
slice_bounds-write_figures-count c = simp length-set (omega arith)

pub slice_bounds-write_figures-start : goal.slice_bounds-write_figures-start
slice_bounds-write_figures-start c = simp length-set (omega arith)

pub write_figures-requires : goal.write_figures-requires
write_figures-requires c = head-room c.args.store.now c.requires

pub returns : goal.returns
returns c = head-written c.args.found c.args.store.now _ c.requires c.write_figures.ensures

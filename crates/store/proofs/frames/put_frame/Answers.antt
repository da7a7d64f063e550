use native.Mathlib.Omega.{arith}
use lib.ListN.{length-set}
use Rattle.store.proofs.MappingLaws.{frame-long, frame-written}
use Rattle.store.proofs.frames.put_frame.Goals as goal

-- `store::frames::put_frame` meets its contract: eight stores over the front. Assumes nothing.

pub bounds-out-1 : goal.bounds-out-1
bounds-out-1 c = simp length-set (omega arith)

pub bounds-out-2 : goal.bounds-out-2
bounds-out-2 c = simp length-set (omega arith)

pub bounds-out-3 : goal.bounds-out-3
bounds-out-3 c = simp length-set (omega arith)

pub put_float-requires : goal.put_float-requires
put_float-requires c = simp length-set (omega arith)

pub put_float-requires-2 : goal.put_float-requires-2
put_float-requires-2 c = let e = frame-long c.args.out.now _ _ _ _ _ _ c.put_float.ensures in omega (arith, e, c.requires.1)

pub returns : goal.returns
returns c = frame-written c.args.store.now c.args.out.now _ _ _ _ c.requires.1 c.float_at-skew.ensures c.float_at-slope.ensures c.put_float.ensures c.put_float-2.ensures

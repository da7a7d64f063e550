use native.Mathlib.Omega.{arith}
use lib.ListN.{length-set}
use Rattle.memory.proofs.CopyLaws.{copy_more}
use Rattle.memory.proofs.words.copy_over.Goals as goal

pub loop-i-preserved : goal.loop-i-preserved
loop-i-preserved g c =
    let s = c.args.src.now in
    let d = c.args.dst.now in
    (copy_more s d c.loop-i.dst c.loop-i.i c.index-src-i.result (omega arith) (omega arith) c.loop-i.invariant.0 c.index-src-i.is, simp length-set c.loop-i.invariant.1)

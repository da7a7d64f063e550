use native.Mathlib.Omega.{arith}
use lib.ListN.{get_or}
use lib.Dec.{ltb}
use Rattle.labelling.proofs.ExtractLaws.{ink-none, byte_small, byte_more}
use Rattle.labelling.proofs.runs.ink_count.Goals as goal

pub loop-byte-init : goal.loop-byte-init
loop-byte-init c = (omega arith, omega arith, ink-none _)

pub loop-byte-preserved : goal.loop-byte-preserved
loop-byte-preserved c = let t = byte_small (ltb 0 (get_or c.args.chunk.now c.loop-byte.byte-index 0)) in (omega arith, omega arith, byte_more c.args.chunk.now c.loop-byte.byte-index c.loop-byte.count c.loop-byte.invariant.2)

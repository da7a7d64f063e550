use lib.ListN.{length}
use Rattle.scripts.proofs.ScriptLaws.{part-long, segment-called}
use Rattle.scripts.proofs.playing.segment_call.Goals as goal

pub returns : goal.returns
returns c =
    let a = c.args in
    segment-called a.call.now a.floats.now a.store.now a.ink.now a.kinds.now (length a.scratch.now) c.cut-n.ensures c.cut-m.ensures c.cut-k.ensures c.cut-x.ensures c.sheet_of-sheet.ensures (part-long _ _ a.scratch.now c.cut-x.ensures) c.segment.ensures.0 c.segment.auto.store c.segment.auto.kinds

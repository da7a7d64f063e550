use Rattle.extents.proofs.CrowdedLaws.{short-more}
use Rattle.extents.proofs.crowded.Part.all_short.Goals as goal

pub loop-i-preserved : goal.loop-i-preserved
loop-i-preserved c = short-more c.args.self.row.now c.args.self.x c.loop-i.i c.loop-i.short c.loop-i.invariant

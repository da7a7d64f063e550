use Rattle.extents.proofs.BandLaws.{blank-more}
use Rattle.extents.proofs.chunks.is_blank.Goals as goal

pub loop-dot-preserved : goal.loop-dot-preserved
loop-dot-preserved c =
    let a = c.args in
    blank-more a.dots.now c.loop-dot.dot-index c.loop-dot.blank c.loop-dot.invariant

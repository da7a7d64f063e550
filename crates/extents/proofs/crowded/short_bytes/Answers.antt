use mathlib.Core.Path.{◌∙◌}
use native.Mathlib.Omega.{arith}
use Rattle.extents.proofs.CrowdedLaws.{short-around}
use Rattle.extents.proofs.PutLaws.{put_up}
use Rattle.extents.proofs.crowded.short_bytes.Goals as goal

pub loop-k-preserved : goal.loop-k-preserved
loop-k-preserved c =
    let a = c.args in
    put_up c.short_extent.result c.loop-k.invariant (omega arith) (omega arith) (c.short_extent.ensures ∙ short-around a.row.now a.x c.loop-k.k c.requires.0)

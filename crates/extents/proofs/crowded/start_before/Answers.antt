use Rattle.extents.specs.stages.Scans.{Starts}
use Rattle.extents.proofs.CrowdedLaws.{starts-here, starts-after}
use Rattle.memory.specs.rules.Masks.{is_ink}
use native.Mathlib.Omega.{arith}
use Rattle.extents.proofs.crowded.start_before.Goals as goal
use Rattle.extents.proofs.crowded.start_before.Goals.{then-row-r-eq0-via-then-row-r-eq0, then-row-r-eq0-via-else-row-r-eq0+then-row-r-eq0-2}

pub returns-then-row-r-eq0 : goal.returns-then-row-r-eq0
returns-then-row-r-eq0 c =
    let here : Starts (is_ink c.args.row.now) c.loop-r.r =
    elim c.then-row-r-eq0.branch [
      | then-row-r-eq0-via-then-row-r-eq0 w ↦ starts-here c.args.row.now c.loop-r.r w.if-row-r-eq0.true
      | then-row-r-eq0-via-else-row-r-eq0+then-row-r-eq0-2 w ↦ starts-after c.args.row.now c.loop-r.r (omega arith) w.if-row-r-eq0-2.true
    ] in
    (omega arith, omega arith, here)

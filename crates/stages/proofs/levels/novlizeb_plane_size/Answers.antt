use mathlib.Core.Bool.{not}
use mathlib.Core.Path.{ap}
use Rattle.stages.proofs.LevelLaws.{limits-held, frame-outside, frame-inside}
use Rattle.stages.proofs.levels.novlizeb_plane_size.Goals as goal

-- `stages::levels::novlizeb_plane_size` promises what `levelling::frame_size` does, within the limits. Assumes nothing.

pub returns-then-not-in_limits : goal.returns-then-not-in_limits
returns-then-not-in_limits c = frame-outside _ _ _ c.in_limits.result c.in_limits.ensures (ap not c.if-not-in_limits.true)

pub frame_size-size-requires : goal.frame_size-size-requires
frame_size-size-requires c =
    let l = limits-held _ _ _ c.in_limits.result c.in_limits.ensures (ap not c.if-not-in_limits.false) in
    record { sides = l.sides; slope = l.one }

pub returns : goal.returns
returns c =
    let e = c.frame_size-size.ensures.sides in
    frame-inside _ _ _ c.in_limits.result _ _ c.in_limits.ensures (ap not c.if-not-in_limits.false) e.0 e.1

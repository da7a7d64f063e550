use mathlib.Core.Bool.{not}
use mathlib.Core.Path.{ap}
use Rattle.stages.proofs.LevelLaws.{limits-held, lent-held, outside, too_short, moved}
use Rattle.stages.proofs.levels.novlizeb_level_plane.Goals as goal

-- `stages::levels::novlizeb_level_plane` meets its contract: outside the limits, too short, or moved. Assumes nothing.

pub returns-then-not-in_limits : goal.returns-then-not-in_limits
returns-then-not-in_limits c = outside _ _ _ _ _ _ _ c.in_limits.result c.in_limits.ensures (ap not c.if-not-in_limits.true)

pub frame_size-requires : goal.frame_size-requires
frame_size-requires c =
    let l = limits-held _ _ _ c.in_limits.result c.in_limits.ensures (ap not c.if-not-in_limits.false) in
    record { sides = l.sides; slope = l.one }

pub returns-then-not-lent_fits : goal.returns-then-not-lent_fits
returns-then-not-lent_fits c =
    let z = c.frame_size.ensures.sides in
    too_short _ _ _ _ _ _ _ _ _ c.in_limits.result c.lent_fits.result c.in_limits.ensures (ap not c.if-not-in_limits.false) z.0 z.1 c.lent_fits.ensures (ap not c.if-not-lent_fits.true)

pub level-requires : goal.level-requires
level-requires c =
    let l = limits-held _ _ _ c.in_limits.result c.in_limits.ensures (ap not c.if-not-in_limits.false) in
    let z = c.frame_size.ensures.sides in
    let n = lent-held _ _ _ _ _ _ _ c.lent_fits.result c.lent_fits.ensures (ap not c.if-not-lent_fits.false) in
    record { sides = l.sides; slope = l.one; frame_sides = z; room = (n.whole, n.words, n.bytes) }

pub returns : goal.returns
returns c =
    let z = c.frame_size.ensures.sides in
    let m = c.level.ensures in
    moved _ _ _ _ _ _ _ _ _ c.in_limits.result c.lent_fits.result _ _ c.in_limits.ensures (ap not c.if-not-in_limits.false) z.0 z.1 c.lent_fits.ensures (ap not c.if-not-lent_fits.false) m.0 m.1

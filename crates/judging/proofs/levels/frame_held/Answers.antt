use Rattle.judging.proofs.LimitLaws.{point-sides, point-within}
use mathlib.Core.Path.{ap, ◌∙◌}
use Rattle.levelling.specs.rules.Frames.{Frame}
use Rattle.judging.proofs.LevelLaws.{frame-by-words}
use Rattle.judging.proofs.levels.frame_held.Goals as goal

-- `judging::levels::frame_held` meets its contract. Assumes nothing.

pub frame_size-requires : goal.frame_size-requires
frame_size-requires c = record { sides = point-sides c.args.store.now c.requires.1 _ c.float_at-slope.ensures; slope = point-within c.args.store.now c.requires.1 _ c.float_at-slope.ensures }

pub returns : goal.returns
returns c =
    let e = frame-by-words c.args.store.now _ c.float_at-slope.ensures in
    let f = c.frame_size.ensures in
    (f.sides.0 ∙ ap (λ (z : Frame). z.w) e, f.sides.1 ∙ ap (λ (z : Frame). z.h) e, f.limits.0, f.limits.1)

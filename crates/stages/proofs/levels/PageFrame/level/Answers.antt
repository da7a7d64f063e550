use mathlib.Core.Path.{ap, ◌∙◌}
use Rattle.memory.specs.rules.Words.{over}
use Rattle.levelling.specs.rules.Frames.{Frame}
use Rattle.levelling.specs.rules.Planes.{levelled}
use Rattle.levelling.proofs.ShearParts.{parts_are, parts-fit}
use Rattle.stages.proofs.levels.PageFrame.level.Goals as goal

-- `stages::levels::PageFrame::level` meets its contract: the words that were filled are the frame's own shears. Assumes nothing.

pub level_plane-requires : goal.level_plane-requires
level_plane-requires c =
    let e = c.requires.frame_sides in
    let n = c.requires.room in
    (parts-fit _ _ _ _ _ _ _ _ _ c.requires.sides c.requires.slope c.fill_shears.ensures e.0 e.1 n.0 n.2, c.requires.sides.w_fits)

pub returns : goal.returns
returns c =
    let e = c.requires.frame_sides in
    let s = c.fill_shears.ensures in (
      s,
      c.level_plane.ensures
          ∙ ap (λ (f : Frame). over (levelled f c.args.fill c.args.page.now) c.args.out.now) (parts_are _ _ _ _ _ _ _ c.requires.sides c.requires.slope s e.0 e.1),
    )

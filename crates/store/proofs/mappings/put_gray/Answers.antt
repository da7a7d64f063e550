use mathlib.Core.Path.{ap, ◌∙◌}
use Rattle.memory.specs.rules.Words.{over}
use Rattle.levelling.specs.rules.Frames.{Frame}
use Rattle.levelling.specs.rules.Planes.{level_gray}
use Rattle.judging.proofs.LevelLaws.{readable}
use Rattle.store.proofs.MappingLaws.{read-room, frame-by, plane-fits}
use Rattle.store.proofs.mappings.put_gray.Goals as goal

-- `store::mappings::put_gray` meets its contract: the frame of the two parts is the one held. Assumes nothing.

pub held_frame-frame-requires : goal.held_frame-frame-requires
held_frame-frame-requires c = (read-room c.args.store.now _ _ (readable c.args.store.now _ _ c.requires)).4

pub level_plane-requires : goal.level_plane-requires
level_plane-requires c =
    let f = c.held_frame-frame.ensures in
    let R = readable c.args.store.now _ _ c.requires in
    rw f.sides (plane-fits c.args.store.now _ _ R _ _ f.shear f.shear_x c.args.gray.now c.args.out.now R.enough, (read-room c.args.store.now _ _ R).2)

pub returns : goal.returns
returns c =
    let f = c.held_frame-frame.ensures in
    let R = readable c.args.store.now _ _ c.requires in
    c.level_plane.ensures ∙ ap (λ (f : Frame). over (level_gray f c.args.gray.now) c.args.out.now) (frame-by c.args.store.now _ _ R _ _ f.shear f.shear_x _ f.sides)

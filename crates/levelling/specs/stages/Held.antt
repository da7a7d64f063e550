-- A page plane as the code holds it, its frame, and a part of it moved.
use Rattle.std.specs.Prelude.{List, ℕ, length}
use Rattle.levelling.specs.declared.page_plane.PagePlane.{PagePlane}
use Rattle.levelling.specs.declared.tiles.Part.{Part}
use Rattle.levelling.specs.rules.Frames.{Frame, frame_of}
use Rattle.levelling.specs.stages.Moves.{PartFits, MovesPart}

-- the frame that it is moved into
abbrev pub frame_held : PagePlane → Frame
frame_held p = frame_of p.sides.page_w p.sides.page_h p.shear.now p.shear_x.now p.sides.w p.sides.h

-- the same with as many rows as have a shear
abbrev pub frame_moved : PagePlane → Frame
frame_moved p = frame_of p.sides.page_w p.sides.page_h p.shear.now p.shear_x.now p.sides.w (length p.shear_x.now)

-- the lengths for a part of it
abbrev pub FitsPart : PagePlane → Part → List ℕ → Type 0
FitsPart p part out = PartFits p.sides.page_w p.shear.now p.shear_x.now p.sides.w p.page.now out part.y part.c part.n

-- moving the part's dots makes them done, whichever were
abbrev pub MovesHeld : PagePlane → Part → List ℕ → List ℕ → Type 0
MovesHeld p part before after = MovesPart p.sides.page_w p.shear.now p.shear_x.now p.sides.w p.fill p.page.now part.y part.c part.n before after

use mathlib.Core.Bool.{not}
use mathlib.Core.Path.{ap}
use Rattle.novlizeb.proofs.AnswerLaws.{page-limits, size_none, size-some}
use Rattle.novlizeb.proofs.frames.novlizeb_frame_size.Goals as goal

-- `novlizeb::frames::novlizeb_frame_size` meets its contract: 0 outside the limits, else the frame's sides. Assumes nothing.

pub returns-then-not-is_page : goal.returns-then-not-is_page
returns-then-not-is_page c = size_none c.args.width c.args.height c.args.slope _ c.is_page.ensures (ap not c.if-not-is_page.true)

pub frame_size-size-requires : goal.frame_size-size-requires
frame_size-size-requires c = let l = page-limits c.args.width c.args.height c.args.slope _ c.is_page.ensures (ap not c.if-not-is_page.false) in record { sides = l.0; slope = l.1 }

pub returns : goal.returns
returns c = size-some c.args.width c.args.height c.args.slope c.is_page.result _ _ c.is_page.ensures (ap not c.if-not-is_page.false) c.frame_size-size.ensures.sides.0 c.frame_size-size.ensures.sides.1

use Rattle.judging.proofs.ShearTests.{rows-asked, columns-asked, differs-is}
use Rattle.judging.proofs.shears.frame_differs.Goals as goal

-- `judging::shears::frame_differs` meets its contract: both shears, then the frame words. Assumes nothing.

pub is_shear-rows-requires : goal.is_shear-rows-requires
is_shear-rows-requires c =
    record { count = rows-asked c.args.store.now c.args.page_w c.args.page_h c.args.slope c.requires.sides c.requires.slope c.args.w c.args.h c.requires.frame_sides.0 c.requires.frame_sides.1 c.requires.frame_sides.2 c.requires.as_held.0 c.requires.as_held.1 c.requires.as_held.2; slope = c.requires.slope }

pub is_shear-columns-requires : goal.is_shear-columns-requires
is_shear-columns-requires c =
    record { count = columns-asked c.args.store.now c.args.page_w c.args.page_h c.args.slope c.requires.sides c.requires.slope c.args.w c.args.h c.requires.frame_sides.0 c.requires.frame_sides.1 c.requires.frame_sides.2 c.requires.as_held.0 c.requires.as_held.1 c.requires.as_held.2; slope = c.requires.slope }

pub returns : goal.returns
returns c = differs-is c.args.store.now c.args.page_w c.args.page_h c.args.slope c.requires.sides c.requires.slope c.args.w c.args.h c.requires.frame_sides.0 c.requires.frame_sides.1 c.requires.frame_sides.2 c.requires.as_held.0 c.requires.as_held.1 c.requires.as_held.2 _ _ c.is_shear-rows.ensures c.is_shear-columns.ensures

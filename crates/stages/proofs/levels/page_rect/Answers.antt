use mathlib.Core.Bool.{not}
use mathlib.Core.Path.{ap}
use native.Mathlib.Omega.{arith}
use lib.ListN.{length-take, length-drop}
use Rattle.stages.proofs.MapLaws.{rows-held, rect-none, rect-some}
use Rattle.stages.proofs.levels.page_rect.Goals as goal

-- `stages::levels::page_rect` promises what `levelling::rect_to_page` does, of the shears that the words hold. Assumes nothing.

pub returns-then-not-above-below : goal.returns-then-not-above-below
returns-then-not-above-below c =
    rect-none _ _ _ _ c.holds_row-above.result c.holds_row-below.result c.holds_row-above.ensures c.holds_row-below.ensures (ap not c.if-not-above-below.true)

pub slice_bounds-rect_to_page-end : goal.slice_bounds-rect_to_page-end
slice_bounds-rect_to_page-end c =
    let r = rows-held _ _ c.args.page_h _ _ c.holds_row-above.result c.holds_row-below.result c.holds_row-above.ensures c.holds_row-below.ensures (ap not c.if-not-above-below.false) in
    omega (arith, r.above.low)

pub slice_bounds-rect_to_page-count-2 : goal.slice_bounds-rect_to_page-count-2
slice_bounds-rect_to_page-count-2 c =
    let r = rows-held _ _ c.args.page_h _ _ c.holds_row-above.result c.holds_row-below.result c.holds_row-above.ensures c.holds_row-below.ensures (ap not c.if-not-above-below.false) in
    omega (arith, r.above.low)

pub slice_bounds-rect_to_page-start-2 : goal.slice_bounds-rect_to_page-start-2
slice_bounds-rect_to_page-start-2 c =
    let r = rows-held _ _ c.args.page_h _ _ c.holds_row-above.result c.holds_row-below.result c.holds_row-above.ensures c.holds_row-below.ensures (ap not c.if-not-above-below.false) in
    omega (arith, r.above.low)

pub rect_to_page-requires : goal.rect_to_page-requires
rect_to_page-requires c =
    let r = rows-held _ _ c.args.page_h _ _ c.holds_row-above.result c.holds_row-below.result c.holds_row-above.ensures c.holds_row-below.ensures (ap not c.if-not-above-below.false) in (
      r.above.wide,
      r.high,
      simp length-take (omega (arith, r.above.low)),
      simp (length-take, length-drop) (omega (arith, r.above.low)),
      simp (length-take, length-drop) (omega (arith, r.below.low)),
    )

pub returns : goal.returns
returns c =
    rect-some _ _ _ _ c.holds_row-above.result c.holds_row-below.result _ c.holds_row-above.ensures c.holds_row-below.ensures (ap not c.if-not-above-below.false) (c.rect_to_page.ensures 0 0)

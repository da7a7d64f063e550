use mathlib.Core.Bool.{not}
use mathlib.Core.Path.{ap}
use native.Mathlib.Omega.{arith}
use lib.ListN.{length-take, length-drop}
use Rattle.stages.proofs.MapLaws.{row-held, point-none, point-some}
use Rattle.stages.proofs.levels.point.Goals as goal

-- `stages::levels::point` promises what `levelling::to_page` does, of the shears that the words hold. Assumes nothing.

pub returns-then-not-holds_row : goal.returns-then-not-holds_row
returns-then-not-holds_row c = point-none _ _ _ _ c.holds_row.result c.holds_row.ensures (ap not c.if-not-holds_row.true)

pub slice_bounds-to_page-end : goal.slice_bounds-to_page-end
slice_bounds-to_page-end c =
    let r = row-held _ _ _ c.holds_row.result c.holds_row.ensures (ap not c.if-not-holds_row.false) in
    omega (arith, r.low)

pub slice_bounds-to_page-count-2 : goal.slice_bounds-to_page-count-2
slice_bounds-to_page-count-2 c =
    let r = row-held _ _ _ c.holds_row.result c.holds_row.ensures (ap not c.if-not-holds_row.false) in
    omega (arith, r.low)

pub slice_bounds-to_page-start-2 : goal.slice_bounds-to_page-start-2
slice_bounds-to_page-start-2 c =
    let r = row-held _ _ _ c.holds_row.result c.holds_row.ensures (ap not c.if-not-holds_row.false) in
    omega (arith, r.low)

pub to_page-requires : goal.to_page-requires
to_page-requires c =
    let r = row-held _ _ _ c.holds_row.result c.holds_row.ensures (ap not c.if-not-holds_row.false) in
    (r.wide, simp length-take (omega (arith, r.low)), simp (length-take, length-drop) (omega (arith, r.low)))

pub returns : goal.returns
returns c = point-some _ _ _ _ c.holds_row.result _ c.holds_row.ensures (ap not c.if-not-holds_row.false) (c.to_page.ensures 0 0 0)

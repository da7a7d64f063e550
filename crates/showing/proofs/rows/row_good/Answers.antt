use mathlib.Core.Bool.{◌&&◌}
use Prim.Native.Nat.{◌+◌, ◌%◌}
use lib.Dec.{eqb}
use lib.ListN.{get_or}
use Rattle.showing.specs.rules.Inputs.{row_good, row_at, row_digits}
use Rattle.showing.proofs.rows.row_good.Goals as goal

pub returns : goal.returns
unfolding row_good
returns c =
    let a = c.args in
    λ i. (c.digits_at.ensures i && eqb (get_or a.s.now (row_at a.w a.y + row_digits a.w) 0) 10) && eqb (c.number_at-row.ensures.0 i % c.power.ensures.0 i) 0

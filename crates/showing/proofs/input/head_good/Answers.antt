use mathlib.Core.Bool.{◌&&◌}
use borrow.Author.Tests.{le-leb, lt-leb}
use lib.Dec.{eqb}
use lib.ListN.{get_or}
use Rattle.showing.specs.rules.Inputs.{head_good}
use Rattle.showing.proofs.input.head_good.Goals as goal

pub returns-then-s-lt-ROWS_AT : goal.returns-then-s-lt-ROWS_AT
unfolding head_good
returns-then-s-lt-ROWS_AT c = simp (lt-leb _ _ c.if-s-lt-ROWS_AT.true)

pub returns : goal.returns
unfolding head_good
returns c = simp (le-leb _ _ c.if-s-lt-ROWS_AT.false) (λ i. c.digits_at.ensures i && eqb (get_or c.args.s.now 40 0) 10)

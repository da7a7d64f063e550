use mathlib.Core.Path.{sym, ◌∙◌}
use native.Mathlib.Omega.{arith}
use Rattle.showing.specs.rules.Inputs.{row_good}
use Rattle.showing.proofs.ReadLaws.{every-all, every-broken}
use Rattle.showing.proofs.rows.rows_good.Goals as goal

pub returns-then-not-row_good : goal.returns-then-not-row_good
returns-then-not-row_good c = every-broken (row_good c.args.s.now c.args.w) c.args.h c.loop-y.y (omega arith) (sym c.row_good.ensures ∙ c.if-not-row_good.true)

pub returns : goal.returns
returns c = sym (every-all (row_good c.args.s.now c.args.w) c.args.h (λ k l. c.loop-y.invariant k (omega arith)))

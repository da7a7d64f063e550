use mathlib.Core.Path.{◌≡◌, sym, ◌∙◌}
use lib.ListN.{length}
use Rattle.judging.specs.rules.Spoiled.{every}
use Rattle.showing.specs.rules.Inputs.{row_good, row_at}
use Rattle.showing.proofs.InputLaws.{head-long, sides-good, head-bad, sides-bad, rows_tell}
use native.Mathlib.Omega.{arith}
use Rattle.showing.proofs.input.well_made.Goals as goal
use Rattle.showing.proofs.input.well_made.Goals.{then-not-head_good-via-then-not-head_good, then-not-head_good-via-else-not-head_good+then-not-sides_good}

pub returns-then-not-head_good : goal.returns-then-not-head_good
returns-then-not-head_good c =
    let s = c.args.s.now in
    elim c.then-not-head_good.branch [
      | then-not-head_good-via-then-not-head_good w ↦ sym (head-bad s (sym c.head_good.ensures ∙ w.if-not-head_good.true))
      | then-not-head_good-via-else-not-head_good+then-not-sides_good w ↦ sym (sides-bad s (sym c.head_good.ensures ∙ w.if-not-head_good.false) (sym w.sides_good.ensures ∙ w.if-not-sides_good.true))
    ]

pub sides_good-requires : goal.sides_good-requires
sides_good-requires c = head-long c.args.s.now (sym c.head_good.ensures ∙ c.if-not-head_good.false)

pub number_at-w-requires : goal.number_at-w-requires
number_at-w-requires c =
    let l = head-long c.args.s.now (sym c.head_good.ensures ∙ c.if-not-head_good.false) in
    omega arith

pub number_at-h-requires : goal.number_at-h-requires
number_at-h-requires c =
    let l = head-long c.args.s.now (sym c.head_good.ensures ∙ c.if-not-head_good.false) in
    omega arith

pub rows_good-requires : goal.rows_good-requires
rows_good-requires c =
    let s = c.args.s.now in
    let g = sides-good s (sym c.sides_good.ensures ∙ c.if-not-sides_good.false) in
    let w = c.number_at-w.ensures.0 in
    let h = c.number_at-h.ensures.0 in
    (omega arith, (let e : row_at c.number_at-w.result c.number_at-h.result ≡ length s = (λ i. row_at (w i) (h i)) ∙ sym g.2 in omega arith))

pub returns : goal.returns
returns c =
    let s = c.args.s.now in
    c.rows_good.ensures
    ∙ ((λ i. every (row_good s (c.number_at-w.ensures.0 i)) (c.number_at-h.ensures.0 i))
    ∙ rows_tell s (sym c.head_good.ensures ∙ c.if-not-head_good.false) (sym c.sides_good.ensures ∙ c.if-not-sides_good.false))

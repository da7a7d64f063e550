use mathlib.Core.Path.{◌≡◌, sym, ◌∙◌}
use lib.ListN.{length}
use Rattle.memory.specs.rules.Words.{over}
use Rattle.std.specs.Prelude.{Some}
use Rattle.showing.specs.rules.Inputs.{row_at, dots_in, page_of}
use Rattle.showing.proofs.InputLaws.{made, made-long, dots-few, parsed-page, parsed-none, mask-page, mask-none}
use native.Mathlib.Omega.{arith}
use Rattle.showing.proofs.input.parse_page.Goals as goal

pub number_at-width-requires : goal.number_at-width-requires
number_at-width-requires c =
    let l = made-long c.args.input.now (sym c.well_made.ensures ∙ c.if-not-well_made.false) in
    omega arith

pub number_at-height-requires : goal.number_at-height-requires
number_at-height-requires c =
    let l = made-long c.args.input.now (sym c.well_made.ensures ∙ c.if-not-well_made.false) in
    omega arith

pub number_at-skew-requires : goal.number_at-skew-requires
number_at-skew-requires c =
    let l = made-long c.args.input.now (sym c.well_made.ensures ∙ c.if-not-well_made.false) in
    omega arith

pub number_at-slope-requires : goal.number_at-slope-requires
number_at-slope-requires c =
    let l = made-long c.args.input.now (sym c.well_made.ensures ∙ c.if-not-well_made.false) in
    omega arith

pub fill_mask-requires : goal.fill_mask-requires
fill_mask-requires c =
    let s = c.args.input.now in
    let m = made s (sym c.well_made.ensures ∙ c.if-not-well_made.false) in
    let w = c.number_at-width.ensures.0 in
    let h = c.number_at-height.ensures.0 in
    let n = m.narrow in
    let l = m.low in
    let d = dots-few c.number_at-width.result c.number_at-height.result (omega arith) (omega arith) in
    (omega arith, (let e : row_at c.number_at-width.result c.number_at-height.result ≡ length s = (λ i. row_at (w i) (h i)) ∙ sym m.bytes in omega arith), omega arith)

pub returns-then-not-well_made : goal.returns-then-not-well_made
returns-then-not-well_made c =
    let s = c.args.input.now in
    let g = sym c.well_made.ensures ∙ c.if-not-well_made.true in
    (parsed-none s g, mask-none s c.args.mask.now g)

pub returns : goal.returns
returns c =
    let s = c.args.input.now in
    let g = sym c.well_made.ensures ∙ c.if-not-well_made.false in
    let w = c.number_at-width.ensures.0 in
    let h = c.number_at-height.ensures.0 in (
      (λ i. Some (page_of (w i) (h i) (c.number_at-skew.ensures.0 i) (c.number_at-slope.ensures.0 i))) ∙ parsed-page s g,
      c.fill_mask.ensures ∙ ((λ i. over (dots_in s (w i) (h i)) c.args.mask.now) ∙ mask-page s c.args.mask.now g),
    )

use native.Mathlib.Omega.{arith}
use mathlib.Core.Path.{◌∙◌}
use Rattle.extents.proofs.PutLaws.{filled}
use Rattle.extents.proofs.ExtentLaws.{row-further, row-run, row-size}
use Rattle.extents.proofs.rows.extents_of_run.Goals as goal

pub offset_bounds-extents-blank : goal.offset_bounds-extents-blank
offset_bounds-extents-blank c =
    let a = c.args in
    let b = c.run_end-blank.ensures in
    let i = c.run_end-ink.ensures in
    omega (arith, row-size a.row.now a.x a.extents.now c.requires.1, b.low, b.high, i.low, i.high)

pub slice_bounds-fill-end : goal.slice_bounds-fill-end
slice_bounds-fill-end c =
    let a = c.args in
    let b = c.run_end-blank.ensures in
    let i = c.run_end-ink.ensures in
    omega (arith, row-size a.row.now a.x a.extents.now c.requires.1, b.low, b.high, i.low, i.high)

pub returns : goal.returns
returns c =
    let a = c.args in
    let b = c.run_end-blank.ensures in
    let i = c.run_end-ink.ensures in (
      row-further a.row.now a.x c.run_end-blank.result c.run_end-ink.result c.requires.1.starts b i c.requires.0,
      row-run a.row.now a.x a.extents.now c.requires.1 c.run_end-blank.result c.run_end-ink.result c.capped.result c.fill.new.self b i (c.fill.ensures.after (λ y h. h) ∙ filled _ _) c.capped.ensures,
    )

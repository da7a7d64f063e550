use mathlib.Core.Path.{sym, ap, ◌∙◌}
use lib.ListN.{length}
use Rattle.std.proofs.lemmas.Result.{err_from_is_err_and}
use Rattle.memory.specs.rules.Words.{over}
use Rattle.extents.specs.rules.Answers.{extents_along}
use Rattle.extents.proofs.AnswerLaws.{extents-refused, extents-fit, extents-done}
use Rattle.extents.proofs.entry.run_extents.Goals as goal

pub returns-in_err-judge_extents : goal.returns-in_err-judge_extents
returns-in_err-judge_extents c =
    let a = c.args in
    let p = err_from_is_err_and c.from_residual.result c.from_residual.ensures.1 in
    rw (p.1, p.2) (extents-refused a.mask.now a.extents.now a.width a.height _ a.along c.in_err-judge_extents.ensures)

pub row_extents-requires : goal.row_extents-requires
row_extents-requires c = let a = c.args in extents-fit (length a.mask.now) a.width a.height (length a.extents.now) c.in_ok-judge_extents.ensures

pub column_extents-requires : goal.column_extents-requires
column_extents-requires c = let a = c.args in extents-fit (length a.mask.now) a.width a.height (length a.extents.now) c.in_ok-judge_extents.ensures

pub returns-in-Rows : goal.returns-in-Rows
returns-in-Rows c = let a = c.args in extents-done a.mask.now a.extents.now _ a.width a.height a.along c.in_ok-judge_extents.ensures (c.row_extents.ensures ∙ ap (λ d. over (extents_along d a.width a.height a.mask.now) a.extents.now) (sym c.in-Rows.is))

pub returns-in-Columns : goal.returns-in-Columns
returns-in-Columns c = let a = c.args in extents-done a.mask.now a.extents.now _ a.width a.height a.along c.in_ok-judge_extents.ensures (c.column_extents.ensures ∙ ap (λ d. over (extents_along d a.width a.height a.mask.now) a.extents.now) (sym c.in-Columns.is))

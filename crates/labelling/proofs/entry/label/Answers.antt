use mathlib.Core.Path.{sym, refl}
use Rattle.std.proofs.lemmas.Result.{err_from_is_err_and}
use lib.Seq.{length-take-le}
use Rattle.labelling.proofs.EntryLaws.{refused-sides, entry-dots, entry-refused, entry-words, entry-workable, entry_done}
use Rattle.labelling.proofs.entry.label.Goals as goal

pub returns-in_err-judge_sides : goal.returns-in_err-judge_sides
returns-in_err-judge_sides c =
    let a = c.args in
    let p = err_from_is_err_and c.from_residual.result c.from_residual.ensures.1 in
    rw (p.1, p.2) (refused-sides a.width a.height a.mask.now a.capacity a.labels.now a.components.now a.scratch.now _ c.in_err-judge_sides.ensures)

pub judge_lent-requires : goal.judge_lent-requires
judge_lent-requires c =
    let a = c.args in
    entry-dots a.width a.height a.mask.now a.capacity a.labels.now a.components.now a.scratch.now c.in_ok-judge_sides.ensures _ c.area-dots.ensures

pub returns-in_err-judge_lent : goal.returns-in_err-judge_lent
returns-in_err-judge_lent c =
    let a = c.args in
    let p = err_from_is_err_and c.from_residual-in_err-judge_lent.result c.from_residual-in_err-judge_lent.ensures.1 in
    rw (p.1, p.2) (entry-refused a.width a.height a.mask.now a.capacity a.labels.now a.components.now a.scratch.now c.in_ok-judge_sides.ensures _ c.area-dots.ensures _ c.in_err-judge_lent.ensures _ refl)

pub scratch_words-words-requires : goal.scratch_words-words-requires
scratch_words-words-requires c =
    let a = c.args in
    entry-dots a.width a.height a.mask.now a.capacity a.labels.now a.components.now a.scratch.now c.in_ok-judge_sides.ensures _ c.area-dots.ensures

pub slice_bounds-label_runs-end : goal.slice_bounds-label_runs-end
slice_bounds-label_runs-end c =
    let a = c.args in
    entry-words a.width a.height a.mask.now a.capacity a.labels.now a.components.now a.scratch.now c.in_ok-judge_sides.ensures _ c.area-dots.ensures _ c.in_ok-judge_lent.ensures refl _ c.scratch_words-words.ensures

pub slice_bounds-label_runs-end-2 : goal.slice_bounds-label_runs-end-2
slice_bounds-label_runs-end-2 c =
    let a = c.args in
    sym (length-take-le _ a.scratch.now (entry-words a.width a.height a.mask.now a.capacity a.labels.now a.components.now a.scratch.now c.in_ok-judge_sides.ensures _ c.area-dots.ensures _ c.in_ok-judge_lent.ensures refl _ c.scratch_words-words.ensures))

pub label_runs-requires : goal.label_runs-requires
label_runs-requires c =
    let a = c.args in
    entry-workable a.width a.height a.mask.now a.capacity a.labels.now a.components.now a.scratch.now c.in_ok-judge_sides.ensures _ c.area-dots.ensures _ c.in_ok-judge_lent.ensures refl _ c.scratch_words-words.ensures

pub returns : goal.returns
returns c =
    let a = c.args in
    entry_done a.width a.height a.mask.now a.capacity a.labels.now a.components.now a.scratch.now c.in_ok-judge_sides.ensures _ c.area-dots.ensures _ c.in_ok-judge_lent.ensures refl _ c.scratch_words-words.ensures c.label_runs.new.words c.label_runs.ensures c.label_runs.auto.words

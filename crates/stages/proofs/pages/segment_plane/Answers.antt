use Rattle.std.specs.Prelude.{Ok, Err}
use Rattle.memory.specs.rules.Refusals.{number}
use Rattle.std.proofs.lemmas.Result.{err_from_is_err_and}
use Rattle.memory.proofs.RefusalLaws.{number_positive}
use mathlib.Core.Path.{refl}
use native.Mathlib.Omega.{arith}
use mathlib.Core.Path.{sym}
use lib.Seq.{length-take-le}
use Rattle.stages.proofs.PageLaws.{refused-plane, page-plane, refused-lent, page-lent, page-room, page-done}
use Rattle.stages.proofs.pages.segment_plane.Goals as goal

-- `stages::pages::segment_plane` meets its contract: refused, or segmented. Assumes nothing.

pub returns-in_err-judge_plane : goal.returns-in_err-judge_plane
returns-in_err-judge_plane c =
    let p = err_from_is_err_and c.from_residual.result c.from_residual.ensures.1 in
    rw (p.1, p.2) (refused-plane c.args.sheet c.args.w c.args.h c.args.ink.now c.args.capacity c.args.words.now c.args.results.now c.args.kinds.now c.args.figures.now _ c.in_err-judge_plane.ensures (number_positive c.in_err-judge_plane.field-0.0))

pub overflow_mul-dots : goal.overflow_mul-dots
overflow_mul-dots c =
    let g = page-plane c.args.sheet c.args.w c.args.h c.args.ink.now c.args.capacity c.args.words.now c.args.results.now c.args.kinds.now c.args.figures.now 0 c.in_ok-judge_plane.ensures refl in
    omega (arith, g.dots)

pub judge_lent-requires : goal.judge_lent-requires
judge_lent-requires c =
    let g = page-plane c.args.sheet c.args.w c.args.h c.args.ink.now c.args.capacity c.args.words.now c.args.results.now c.args.kinds.now c.args.figures.now 0 c.in_ok-judge_plane.ensures refl in
    (g.narrow, g.dots, omega arith)

pub returns-in_err-judge_lent : goal.returns-in_err-judge_lent
returns-in_err-judge_lent c =
    let p = err_from_is_err_and c.from_residual-in_err-judge_lent.result c.from_residual-in_err-judge_lent.ensures.1 in
    rw (p.1, p.2) (refused-lent c.args.sheet c.args.w c.args.h c.args.ink.now c.args.capacity c.args.words.now c.args.results.now c.args.kinds.now c.args.figures.now 0 c.in_ok-judge_plane.ensures refl _ c.in_err-judge_lent.ensures (number_positive c.in_err-judge_lent.field-0.0))

pub scratch_words-need-requires : goal.scratch_words-need-requires
scratch_words-need-requires c =
    let g = page-plane c.args.sheet c.args.w c.args.h c.args.ink.now c.args.capacity c.args.words.now c.args.results.now c.args.kinds.now c.args.figures.now 0 c.in_ok-judge_plane.ensures refl in
    omega (arith, g.dots)

pub slice_bounds-segment-end : goal.slice_bounds-segment-end
slice_bounds-segment-end c =
    rw c.scratch_words-need.ensures
    ((page-lent c.args.sheet c.args.w c.args.h c.args.ink.now c.args.capacity c.args.words.now c.args.results.now c.args.kinds.now c.args.figures.now 0 c.in_ok-judge_plane.ensures refl 0 c.in_ok-judge_lent.ensures refl).words_room)

pub slice_bounds-segment-end-2 : goal.slice_bounds-segment-end-2
slice_bounds-segment-end-2 c =
    rw c.scratch_words-need.ensures
    (sym (length-take-le _ c.args.words.now (page-lent c.args.sheet c.args.w c.args.h c.args.ink.now c.args.capacity c.args.words.now c.args.results.now c.args.kinds.now c.args.figures.now 0 c.in_ok-judge_plane.ensures refl 0 c.in_ok-judge_lent.ensures refl).words_room))

pub segment-requires : goal.segment-requires
segment-requires c =
    rw c.scratch_words-need.ensures
    (page-room c.args.sheet c.args.w c.args.h c.args.ink.now c.args.capacity c.args.words.now c.args.results.now c.args.kinds.now c.args.figures.now 0 c.in_ok-judge_plane.ensures refl 0 c.in_ok-judge_lent.ensures refl)

pub returns-in_err-found : goal.returns-in_err-found
returns-in_err-found c =
    let E = c.in_err-found.ensures in
    let p = err_from_is_err_and c.from_residual-in_err-found.result c.from_residual-in_err-found.ensures.1 in
    rw (p.1, p.2, c.scratch_words-need.ensures)
    (page-done c.args.sheet c.args.w c.args.h c.args.ink.now c.args.capacity c.args.words.now c.args.results.now c.args.kinds.now c.args.figures.now 0 c.in_ok-judge_plane.ensures refl 0 c.in_ok-judge_lent.ensures refl (number c.in_err-found.field-0.0) (Err c.in_err-found.field-0.0) c.segment.new.results c.segment.new.plane c.args.figures.now c.segment.new.words (rw c.scratch_words-need.ensures at c.segment.auto.words) E.1 refl refl)

pub write_figures-requires : goal.write_figures-requires
write_figures-requires c =
    (page-lent c.args.sheet c.args.w c.args.h c.args.ink.now c.args.capacity c.args.words.now c.args.results.now c.args.kinds.now c.args.figures.now 0 c.in_ok-judge_plane.ensures refl 0 c.in_ok-judge_lent.ensures refl).figures-room

pub returns : goal.returns
returns c =
    rw c.scratch_words-need.ensures
    (page-done c.args.sheet c.args.w c.args.h c.args.ink.now c.args.capacity c.args.words.now c.args.results.now c.args.kinds.now c.args.figures.now 0 c.in_ok-judge_plane.ensures refl 0 c.in_ok-judge_lent.ensures refl 0 (Ok c.in_ok-found.found) c.segment.new.results c.segment.new.plane c.write_figures.new.figures c.segment.new.words (rw c.scratch_words-need.ensures at c.segment.auto.words) c.in_ok-found.ensures.1 refl c.write_figures.ensures)

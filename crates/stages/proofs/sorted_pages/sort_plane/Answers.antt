use Rattle.std.proofs.lemmas.Result.{err_from_is_err_and}
use Rattle.memory.proofs.RefusalLaws.{number_positive}
use mathlib.Core.Path.{refl}
use native.Mathlib.Omega.{arith}
use mathlib.Core.Path.{sym, subst}
use lib.Seq.{length-take-le}
use Rattle.sorting.specs.stages.SortSteps.{sort_left}
use Rattle.std.specs.Prelude.{Option}
use Rattle.sorting.specs.declared.sort.SortCounts.{SortCounts}
use Rattle.stages.proofs.SortedPageLaws.{few-sorted, sort-plane, sort-frame, sort-refused, sort-lent, sort-room, sort-many, sort-done}
use Rattle.stages.proofs.sorted_pages.sort_plane.Goals as goal

-- `stages::sorted_pages::sort_plane` meets its contract: refused, or sorted. Assumes nothing.

pub returns-in_err-judge_plane : goal.returns-in_err-judge_plane
returns-in_err-judge_plane c =
    let p = err_from_is_err_and c.from_residual.result c.from_residual.ensures.1 in
    rw (p.1, p.2) (let a = c.args in sort-plane a.sheet a.w a.h a.ink.now a.capacity a.words.now a.figures.now _ c.in_err-judge_plane.ensures (number_positive c.in_err-judge_plane.field-0.0))

pub overflow_mul-dots : goal.overflow_mul-dots
overflow_mul-dots c = let a = c.args in let g = sort-frame a.sheet a.w a.h a.ink.now a.capacity a.words.now a.figures.now 0 c.in_ok-judge_plane.ensures refl in omega (arith, g.dots)

pub judge_sort-requires : goal.judge_sort-requires
judge_sort-requires c = let a = c.args in let g = sort-frame a.sheet a.w a.h a.ink.now a.capacity a.words.now a.figures.now 0 c.in_ok-judge_plane.ensures refl in (g.dots, omega arith)

pub returns-in_err-judge_sort : goal.returns-in_err-judge_sort
returns-in_err-judge_sort c =
    let p = err_from_is_err_and c.from_residual-in_err-judge_sort.result c.from_residual-in_err-judge_sort.ensures.1 in
    rw (p.1, p.2) (let a = c.args in sort-refused a.sheet a.w a.h a.ink.now a.capacity a.words.now a.figures.now 0 c.in_ok-judge_plane.ensures refl _ c.in_err-judge_sort.ensures (number_positive c.in_err-judge_sort.field-0.0))

pub scratch_words-need-requires : goal.scratch_words-need-requires
scratch_words-need-requires c = let a = c.args in let g = sort-frame a.sheet a.w a.h a.ink.now a.capacity a.words.now a.figures.now 0 c.in_ok-judge_plane.ensures refl in omega (arith, g.dots)

pub slice_bounds-sort_by_plan-end : goal.slice_bounds-sort_by_plan-end
slice_bounds-sort_by_plan-end c =
    rw c.scratch_words-need.ensures
    (let a = c.args in let l = sort-lent a.sheet a.w a.h a.ink.now a.capacity a.words.now a.figures.now 0 c.in_ok-judge_plane.ensures refl 0 c.in_ok-judge_sort.ensures refl in l.words_room)

pub slice_bounds-sort_by_plan-end-2 : goal.slice_bounds-sort_by_plan-end-2
slice_bounds-sort_by_plan-end-2 c =
    rw c.scratch_words-need.ensures
    (let a = c.args in let l = sort-lent a.sheet a.w a.h a.ink.now a.capacity a.words.now a.figures.now 0 c.in_ok-judge_plane.ensures refl 0 c.in_ok-judge_sort.ensures refl in sym (length-take-le _ a.words.now l.words_room))

pub sort_by_plan-requires : goal.sort_by_plan-requires
sort_by_plan-requires c =
    rw c.scratch_words-need.ensures
    (let a = c.args in sort-room a.sheet a.w a.h a.ink.now a.capacity a.words.now a.figures.now 0 c.in_ok-judge_plane.ensures refl 0 c.in_ok-judge_sort.ensures refl)

pub write_sorting-requires : goal.write_sorting-requires
write_sorting-requires c = let a = c.args in let l = sort-lent a.sheet a.w a.h a.ink.now a.capacity a.words.now a.figures.now 0 c.in_ok-judge_plane.ensures refl 0 c.in_ok-judge_sort.ensures refl in let H = subst (λ (r : Option SortCounts). sort_left r a.sheet a.w a.h a.ink.now a.capacity c.sort_by_plan.new.words) c.in-Some.is c.sort_by_plan.ensures.1 in let f = few-sorted H in
    (l.figures-room, omega (arith, l.few, f.horizontal), omega (arith, l.few, f.vertical), omega (arith, l.few, f.components))

pub returns-in_default : goal.returns-in_default
returns-in_default c =
    rw c.scratch_words-need.ensures
    (let a = c.args in sort-many a.sheet a.w a.h a.ink.now a.capacity a.words.now a.figures.now 0 c.in_ok-judge_plane.ensures refl 0 c.in_ok-judge_sort.ensures refl c.sort_by_plan.new.words (rw c.scratch_words-need.ensures at c.sort_by_plan.auto.words) (subst (λ (r : Option SortCounts). sort_left r a.sheet a.w a.h a.ink.now a.capacity c.sort_by_plan.new.words) c.in_default.is c.sort_by_plan.ensures.1))

pub returns : goal.returns
returns c =
    rw c.scratch_words-need.ensures
    (let a = c.args in sort-done a.sheet a.w a.h a.ink.now a.capacity a.words.now a.figures.now 0 c.in_ok-judge_plane.ensures refl 0 c.in_ok-judge_sort.ensures refl c.sort_by_plan.new.words (rw c.scratch_words-need.ensures at c.sort_by_plan.auto.words) c.in-Some.found c.write_sorting.new.figures (subst (λ (r : Option SortCounts). sort_left r a.sheet a.w a.h a.ink.now a.capacity c.sort_by_plan.new.words) c.in-Some.is c.sort_by_plan.ensures.1) c.write_sorting.ensures)

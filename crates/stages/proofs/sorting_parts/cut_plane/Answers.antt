use Prim.Native.Nat.{max}
use mathlib.Core.Path.{◌≡◌}
use lib.Dec.{ltb}
use lib.ListN.{length}
use Rattle.memory.specs.rules.Refusals.{refuse_if}
use Rattle.std.proofs.lemmas.Result.{err_from_is_err_and}
use Rattle.memory.proofs.RefusalLaws.{number_positive}
use mathlib.Core.Path.{refl}
use native.Mathlib.Omega.{arith}
use mathlib.Core.Path.{sym, subst}
use Prim.Native.Nat.{ℕ, ◌<◌}
use lib.Seq.{length-take-le}
use Rattle.sorting.specs.rules.Capacity.{most_cuts}
use Rattle.sorting.specs.stages.SortSteps.{CutsHeld, cuts_left}
use Rattle.std.specs.Prelude.{Option}
use Rattle.sorting.specs.declared.sort.Cuts.{Cuts}
use Rattle.stages.proofs.CutLaws.{few-cuts, refused-frame, cut-frame, refused-room, cut-lent, cut-counts, cut-room, cut-many, cut-done}
use Rattle.stages.proofs.sorting_parts.cut_plane.Goals as goal

-- `stages::sorting_parts::cut_plane` meets its contract: refused, or cut and counted. Assumes nothing.

at-least : (n r : ℕ) → r ≡ max n 2 → r ≡ max 2 n
at-least n r e = omega arith

pub returns-in_err-judge_frame : goal.returns-in_err-judge_frame
returns-in_err-judge_frame c =
    let p = err_from_is_err_and c.from_residual.result c.from_residual.ensures.1 in
    rw (p.1, p.2) (let a = c.args in refused-frame a.run_min a.thick_max a.width a.height a.ink.now a.capacity a.words.now a.counts.now _ c.in_err-judge_frame.ensures (number_positive c.in_err-judge_frame.field-0.0))

pub overflow_mul-dots : goal.overflow_mul-dots
overflow_mul-dots c = let a = c.args in let g = cut-frame a.run_min a.thick_max a.width a.height a.ink.now a.capacity a.words.now a.counts.now 0 c.in_ok-judge_frame.ensures refl in omega (arith, g.dots)

pub judge_cuts-requires : goal.judge_cuts-requires
judge_cuts-requires c = let a = c.args in let g = cut-frame a.run_min a.thick_max a.width a.height a.ink.now a.capacity a.words.now a.counts.now 0 c.in_ok-judge_frame.ensures refl in (g.dots, omega arith)

pub returns-in_err-judge_cuts : goal.returns-in_err-judge_cuts
returns-in_err-judge_cuts c =
    let p = err_from_is_err_and c.from_residual-in_err-judge_cuts.result c.from_residual-in_err-judge_cuts.ensures.1 in
    rw (p.1, p.2) (let a = c.args in refused-room a.run_min a.thick_max a.width a.height a.ink.now a.capacity a.words.now a.counts.now 0 c.in_ok-judge_frame.ensures refl (refuse_if (ltb (length a.counts.now) 2) 9 0) _ refl c.in_err-judge_cuts.ensures (number_positive c.in_err-judge_cuts.field-0.0))

pub scratch_words-need-requires : goal.scratch_words-need-requires
scratch_words-need-requires c = let a = c.args in let g = cut-frame a.run_min a.thick_max a.width a.height a.ink.now a.capacity a.words.now a.counts.now 0 c.in_ok-judge_frame.ensures refl in omega (arith, g.dots)

pub slice_bounds-label_rulings-end : goal.slice_bounds-label_rulings-end
slice_bounds-label_rulings-end c =
    rw c.scratch_words-need.ensures
    (let a = c.args in let l = cut-lent a.run_min a.thick_max a.width a.height a.ink.now a.capacity a.words.now a.counts.now 0 c.in_ok-judge_frame.ensures refl (refuse_if (ltb (length a.counts.now) 2) 9 0) 0 refl c.in_ok-judge_cuts.ensures refl in l.words_room)

pub slice_bounds-label_rulings-end-2 : goal.slice_bounds-label_rulings-end-2
slice_bounds-label_rulings-end-2 c =
    rw c.scratch_words-need.ensures
    (let a = c.args in let l = cut-lent a.run_min a.thick_max a.width a.height a.ink.now a.capacity a.words.now a.counts.now 0 c.in_ok-judge_frame.ensures refl (refuse_if (ltb (length a.counts.now) 2) 9 0) 0 refl c.in_ok-judge_cuts.ensures refl in sym (length-take-le _ a.words.now l.words_room))

pub label_rulings-requires : goal.label_rulings-requires
label_rulings-requires c =
    rw c.scratch_words-need.ensures
    (let a = c.args in (cut-room a.run_min a.thick_max a.width a.height a.ink.now a.capacity a.words.now a.counts.now 0 c.in_ok-judge_frame.ensures refl (refuse_if (ltb (length a.counts.now) 2) 9 0) 0 refl c.in_ok-judge_cuts.ensures refl, (let e = c.max-run.ensures in omega (arith, e))))

pub write_counts-requires : goal.write_counts-requires
write_counts-requires c = let a = c.args in let l = cut-lent a.run_min a.thick_max a.width a.height a.ink.now a.capacity a.words.now a.counts.now 0 c.in_ok-judge_frame.ensures refl (refuse_if (ltb (length a.counts.now) 2) 9 0) 0 refl c.in_ok-judge_cuts.ensures refl in let H = subst (λ (r : Option Cuts). cuts_left r c.max-run.result a.thick_max a.width a.height a.ink.now a.capacity c.label_rulings.new.words) c.in-Some.is c.label_rulings.ensures.1 in let f = few-cuts H in
    (cut-counts a.run_min a.thick_max a.width a.height a.ink.now a.capacity a.words.now a.counts.now 0 c.in_ok-judge_frame.ensures refl (refuse_if (ltb (length a.counts.now) 2) 9 0) 0 refl c.in_ok-judge_cuts.ensures refl, omega (arith, l.few, f.horizontal), omega (arith, l.few, f.vertical))

pub returns-in_default : goal.returns-in_default
returns-in_default c =
    rw c.scratch_words-need.ensures
    (let a = c.args in cut-many a.run_min a.thick_max a.width a.height a.ink.now a.capacity a.words.now a.counts.now 0 c.in_ok-judge_frame.ensures refl (refuse_if (ltb (length a.counts.now) 2) 9 0) 0 refl c.in_ok-judge_cuts.ensures refl c.label_rulings.new.words (rw c.scratch_words-need.ensures at c.label_rulings.auto.words)
    (subst (λ (k : ℕ). a.capacity < most_cuts k a.thick_max a.width a.height a.ink.now) (at-least a.run_min _ c.max-run.ensures) (subst (λ (r : Option Cuts). cuts_left r c.max-run.result a.thick_max a.width a.height a.ink.now a.capacity c.label_rulings.new.words) c.in_default.is c.label_rulings.ensures.1)))

pub returns : goal.returns
returns c =
    rw c.scratch_words-need.ensures
    (let a = c.args in let f = c.in-Some.cuts in
    cut-done a.run_min a.thick_max a.width a.height a.ink.now a.capacity a.words.now a.counts.now 0 c.in_ok-judge_frame.ensures refl (refuse_if (ltb (length a.counts.now) 2) 9 0) 0 refl c.in_ok-judge_cuts.ensures refl c.label_rulings.new.words (rw c.scratch_words-need.ensures at c.label_rulings.auto.words) f c.write_counts.new.counts
    (subst (λ (k : ℕ). CutsHeld k a.thick_max a.width a.height a.ink.now a.capacity c.label_rulings.new.words f) (at-least a.run_min _ c.max-run.ensures) (subst (λ (r : Option Cuts). cuts_left r c.max-run.result a.thick_max a.width a.height a.ink.now a.capacity c.label_rulings.new.words) c.in-Some.is c.label_rulings.ensures.1)) c.write_counts.ensures)

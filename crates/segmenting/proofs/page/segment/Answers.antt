use Rattle.std.specs.Prelude.{Option}
use Rattle.std.proofs.lemmas.Result.{err_from_is_err_and}
use Rattle.sorting.specs.declared.sort.SortCounts.{SortCounts}
use mathlib.Core.Path.{◌∙◌, subst}
use native.Mathlib.Omega.{arith}
use Rattle.sorting.proofs.PlanLaws.{frame-of, plan-dots, planned}
use Rattle.sorting.specs.stages.SortSteps.{sort_left}
use Rattle.segmenting.proofs.AnswerLaws.{sorted-many, sorted-ask, sorted-found, sorted-refused}
use Rattle.segmenting.proofs.page.segment.Goals as goal

pub plan_of-plan-requires : goal.plan_of-plan-requires
plan_of-plan-requires c = let R = c.requires in let d = plan-dots (frame-of R.plane) in (omega arith, R.plane.few)

pub sort_ink-requires : goal.sort_ink-requires
sort_ink-requires c = let R = c.requires in rw c.plan_of-plan.ensures (R.plane, planned _ _ _)

pub segment_sorted-requires : goal.segment_sorted-requires
segment_sorted-requires c =
    let a = c.args in let R = c.requires in let e = c.plan_of-plan.ensures in let L = rw e at c.sort_ink.ensures in
    let T = subst (λ (r : Option SortCounts). sort_left r a.sheet a.width a.height a.ink.now a.capacity c.sort_ink.new.words) (sorted-found c.sort_ink.result c.in_ok-found.found c.in_ok-found.ensures.value) L.1 in
    rw e (sorted-ask R c.sort_ink.new.words c.in_ok-found.found L.0 T, planned _ _ _)

pub returns-in_err-found : goal.returns-in_err-found
returns-in_err-found c =
    let a = c.args in let e = c.plan_of-plan.ensures in let L = rw e at c.sort_ink.ensures in
    let n = sorted-refused c.sort_ink.result c.in_err-found.field-0.0 c.in_err-found.ensures.value in
    let T = subst (λ (r : Option SortCounts). sort_left r a.sheet a.width a.height a.ink.now a.capacity c.sort_ink.new.words) n.0 L.1 in
    let p = err_from_is_err_and c.from_residual.result c.from_residual.ensures.1 in
    rw (p.1, p.2, n.1) (L.0, sorted-many a.sheet a.width a.height a.ink.now a.capacity a.results.now a.plane.now T)

pub returns : goal.returns
returns c =
    let e = c.plan_of-plan.ensures in
    let L = rw e at c.sort_ink.ensures in
    let E = rw e at c.segment_sorted.ensures in
    (E.0 ∙ L.0, E.1)

use native.Mathlib.Omega.{arith}
use mathlib.Core.Path.{ap, ◌∙◌}
use Rattle.sorting.specs.declared.plan.Plan.{Plan}
use Rattle.sorting.proofs.PlanLaws.{plan-dots, plan-across, plan-down, plan-rulings, frame-kept, planned}
use Rattle.sorting.proofs.SortLaws.{cut-marked, told-first, told-second}
use Rattle.sorting.proofs.sort.label_rulings.Goals as goal

pub plan_of-plan-requires : goal.plan_of-plan-requires
plan_of-plan-requires c = let F = c.requires.0 in let d = plan-dots F in (omega arith, F.few)

pub mark_rulings-found-requires : goal.mark_rulings-found-requires
mark_rulings-found-requires c =
    let F = c.requires.0 in
    let x = plan-across F in
    let y = plan-down F in
    let m = ap (λ (f : Plan). f.marks) c.plan_of-plan.ensures in
    (plan-rulings F 0 _ _ (omega arith) (omega arith) (omega arith) (omega arith), c.requires.1)

pub label_cuts-requires : goal.label_cuts-requires
label_cuts-requires c =
    let F = c.requires.0 in
    let e = c.plan_of-plan.ensures in
    let R = c.mark_rulings-found.ensures in
    let T = cut-marked (ap (λ (f : Plan). f.marks) e) R in
    rw e (frame-kept F R.len, told-first F.wide T, told-second F.wide T, planned _ _ _)

pub returns : goal.returns
returns c =
    let e = c.plan_of-plan.ensures in
    let R = c.mark_rulings-found.ensures in
    let C = rw e at c.label_cuts.ensures in
    (C.0 ∙ R.len, C.1 _ _ (cut-marked (ap (λ (f : Plan). f.marks) e) R))

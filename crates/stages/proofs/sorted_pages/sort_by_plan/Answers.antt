use native.Mathlib.Omega.{arith}
use Rattle.sorting.proofs.PlanLaws.{frame-of, plan-dots, planned}
use Rattle.stages.proofs.sorted_pages.sort_by_plan.Goals as goal

pub plan_of-plan-requires : goal.plan_of-plan-requires
plan_of-plan-requires c = let R = c.requires in let d = plan-dots (frame-of R) in (omega arith, R.few)

pub sort_ink-requires : goal.sort_ink-requires
sort_ink-requires c = rw c.plan_of-plan.ensures (c.requires, planned _ _ _)

pub returns : goal.returns
returns c = rw c.plan_of-plan.ensures at c.sort_ink.ensures

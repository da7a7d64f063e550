use native.Mathlib.Omega.{arith}
use Prim.Native.Nat.{◌≤◌}
use mathlib.Core.Path.{◌∙◌}
use Rattle.labelling.specs.declared.marked.Test.TheVariants.{Neither}
use Rattle.sorting.specs.stages.SortSteps.{passed}
use Rattle.sorting.proofs.PlanLaws.{plan-marked, plan-sizes, marked-at, plan-down, plan-dots, frame-kept}
use Rattle.sorting.proofs.SortLaws.{left-inside, left-many, rest-inside, rest-done}
use Rattle.sorting.proofs.sort.sort_rest.Goals as goal

pub extract_marked-runs-requires : goal.extract_marked-runs-requires
extract_marked-runs-requires c = plan-marked c.requires.1 c.requires.0

pub label_sizes-count-requires : goal.label_sizes-count-requires
label_sizes-count-requires c = let a = c.args in let F = c.requires.0 in let Q = c.requires.1 in let M = marked-at Q c.extract_marked-runs.ensures in (passed Neither a.plan.width a.plan.height a.ink.now a.words.now, plan-sizes Q (frame-kept F M.len) M.held)

pub returns-then-capacity-count : goal.returns-then-capacity-count
returns-then-capacity-count c = let a = c.args in let F = c.requires.0 in let Q = c.requires.1 in let M = marked-at Q c.extract_marked-runs.ensures in let len₁ = M.len in
    let L = c.label_sizes-count.ensures (passed Neither a.plan.width a.plan.height a.ink.now a.words.now) (plan-sizes Q (frame-kept F len₁) M.held) in let len = L.len ∙ len₁ in
    (len, left-many F Q.sizes_is L len (omega arith))

pub overflow_mul-heights : goal.overflow_mul-heights
overflow_mul-heights c = let e = plan-dots c.requires.0 in let d = c.requires.1.dots_is in omega arith

pub measure_unit-unit-requires : goal.measure_unit-unit-requires
measure_unit-unit-requires c = let a = c.args in let F = c.requires.0 in let Q = c.requires.1 in let M = marked-at Q c.extract_marked-runs.ensures in let len₁ = M.len in
    let L = c.label_sizes-count.ensures (passed Neither a.plan.width a.plan.height a.ink.now a.words.now) (plan-sizes Q (frame-kept F len₁) M.held) in let len = L.len ∙ len₁ in
    let l : c.label_sizes-count.result ≤ a.plan.capacity = omega arith in let q = F.room in let few = F.few in let d = plan-down F in let e = plan-dots F in (left-inside F Q.sizes_is L len l, omega arith, omega arith, omega arith)

pub write_kinds-requires : goal.write_kinds-requires
write_kinds-requires c = let a = c.args in let F = c.requires.0 in let Q = c.requires.1 in let M = marked-at Q c.extract_marked-runs.ensures in let len₁ = M.len in
    let L = c.label_sizes-count.ensures (passed Neither a.plan.width a.plan.height a.ink.now a.words.now) (plan-sizes Q (frame-kept F len₁) M.held) in let len = L.len ∙ len₁ in
    let l : c.label_sizes-count.result ≤ a.plan.capacity = omega arith in let q = F.room in let few = F.few in let d = plan-down F in let e = plan-dots F in let W = c.measure_unit-unit.ensures.1 in let len₃ = W.len in (rest-inside a.sheet F Q.sizes_is Q.dots_is M L l W (omega arith), omega arith, omega arith)

pub returns : goal.returns
returns c = let a = c.args in let F = c.requires.0 in let Q = c.requires.1 in let M = marked-at Q c.extract_marked-runs.ensures in let len₁ = M.len in
    let L = c.label_sizes-count.ensures (passed Neither a.plan.width a.plan.height a.ink.now a.words.now) (plan-sizes Q (frame-kept F len₁) M.held) in let len = L.len ∙ len₁ in
    let l : c.label_sizes-count.result ≤ a.plan.capacity = omega arith in let q = F.room in let few = F.few in let d = plan-down F in let e = plan-dots F in let W = c.measure_unit-unit.ensures.1 in let S = c.write_kinds.ensures in
    (S.within.len ∙ (W.len ∙ len), rest-done a.sheet F Q.sizes_is Q.dots_is M L l W Q.kinds_is c.measure_unit-unit.result a.total a.cuts (omega arith) c.measure_unit-unit.ensures.0 S)

use native.Mathlib.Omega.{arith}
use Prim.Native.Nat.{◌≤◌}
use mathlib.Core.Path.{◌∙◌}
use Rattle.sorting.specs.stages.SortSteps.{passed}
use Rattle.sorting.proofs.PlanLaws.{plan-marked, plan-sizes, marked-at, frame-kept}
use Rattle.sorting.proofs.SortLaws.{left-boxes, cut-none, cut-many, cut-done}
use Rattle.sorting.proofs.sort.label_cut.Goals as goal

pub returns-then-not-found : goal.returns-then-not-found
returns-then-not-found c = let a = c.args in cut-none a.test a.to (c.requires.3 c.if-not-found.true)

pub extract_marked-runs-requires : goal.extract_marked-runs-requires
extract_marked-runs-requires c = plan-marked c.requires.4 c.requires.0

pub label_sizes-count-requires : goal.label_sizes-count-requires
label_sizes-count-requires c =
    let a = c.args in
    let Q = c.requires.4 in
    let M = marked-at Q c.extract_marked-runs.ensures in
    (passed a.test a.plan.width a.plan.height a.ink.now a.words.now, plan-sizes Q (frame-kept c.requires.0 M.len) M.held)

pub returns-then-capacity-count : goal.returns-then-capacity-count
returns-then-capacity-count c =
    let a = c.args in
    let F = c.requires.0 in
    let Q = c.requires.4 in
    let M = marked-at Q c.extract_marked-runs.ensures in
    let L = c.label_sizes-count.ensures (passed a.test a.plan.width a.plan.height a.ink.now a.words.now) (plan-sizes Q (frame-kept F M.len) M.held) in
    cut-many a.test F Q.sizes_is a.to (let x = c.requires.1 in omega arith) c.requires.2 M L (omega arith)

pub pack_boxes-requires : goal.pack_boxes-requires
pack_boxes-requires c =
    let a = c.args in
    let F = c.requires.0 in
    let Q = c.requires.4 in
    let M = marked-at Q c.extract_marked-runs.ensures in
    let L = c.label_sizes-count.ensures (passed a.test a.plan.width a.plan.height a.ink.now a.words.now) (plan-sizes Q (frame-kept F M.len) M.held) in
    let q = c.requires.2 in
    let l : c.label_sizes-count.result ≤ a.plan.capacity = omega arith in
    (left-boxes F Q.sizes_is L (L.len ∙ M.len) l, omega arith)

pub returns : goal.returns
returns c =
    let a = c.args in
    let F = c.requires.0 in
    let Q = c.requires.4 in
    let M = marked-at Q c.extract_marked-runs.ensures in
    let L = c.label_sizes-count.ensures (passed a.test a.plan.width a.plan.height a.ink.now a.words.now) (plan-sizes Q (frame-kept F M.len) M.held) in
    let l : c.label_sizes-count.result ≤ a.plan.capacity = omega arith in
    cut-done a.test F Q.sizes_is a.to (let x = c.requires.1 in omega arith) c.requires.2 M L l c.pack_boxes.ensures

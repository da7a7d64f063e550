use native.Mathlib.Omega.{arith}
use Prim.Native.Nat.{◌≤◌}
use mathlib.Core.Path.{◌∙◌}
use Rattle.sorting.proofs.PlanLaws.{plan-extract, plan-sizes, plan-down, plan-dots, frame-of, frame-kept, room-kept}
use Rattle.sorting.proofs.SortLaws.{runs-held, left-inside, left-many, left-areas, ink-few, first-held, sort-many}
use Rattle.sorting.proofs.sort.sort_ink.Goals as goal

pub extract_runs-runs-requires : goal.extract_runs-runs-requires
extract_runs-runs-requires c = plan-extract (frame-of c.requires.0)

pub label_sizes-count-requires : goal.label_sizes-count-requires
label_sizes-count-requires c = let F = frame-of c.requires.0 in let Q = c.requires.1 in let E = c.extract_runs-runs.ensures in (c.args.ink.now, plan-sizes Q (frame-kept F E.len) (runs-held E))

pub returns-then-capacity-count : goal.returns-then-capacity-count
returns-then-capacity-count c =
    let a = c.args in
    let F = frame-of c.requires.0 in let Q = c.requires.1 in
    let E = c.extract_runs-runs.ensures in
    let L = c.label_sizes-count.ensures a.ink.now (plan-sizes Q (frame-kept F E.len) (runs-held E)) in
    let len = L.len ∙ E.len in
    (len, sort-many a.sheet a.plan.width a.plan.height a.ink.now a.plan.capacity (left-many F Q.sizes_is L len (omega arith)))

pub total_area-total-requires : goal.total_area-total-requires
total_area-total-requires c =
    let a = c.args in
    let F = frame-of c.requires.0 in let Q = c.requires.1 in
    let E = c.extract_runs-runs.ensures in
    let L = c.label_sizes-count.ensures a.ink.now (plan-sizes Q (frame-kept F E.len) (runs-held E)) in
    let len = L.len ∙ E.len in
    let l : c.label_sizes-count.result ≤ a.plan.capacity = omega arith in
    let q = F.room in let few = F.few in let e = plan-dots F in let z = c.requires.0.whole in
    let t = left-areas F Q.sizes_is L len l z c.requires.0.ones in let f = ink-few a.ink.now in (omega arith, omega arith)

pub overflow_mul-heights : goal.overflow_mul-heights
overflow_mul-heights c = let e = plan-dots (frame-of c.requires.0) in let d = c.requires.1.dots_is in omega arith

pub measure_unit-unit-requires : goal.measure_unit-unit-requires
measure_unit-unit-requires c =
    let a = c.args in
    let F = frame-of c.requires.0 in let Q = c.requires.1 in
    let E = c.extract_runs-runs.ensures in
    let L = c.label_sizes-count.ensures a.ink.now (plan-sizes Q (frame-kept F E.len) (runs-held E)) in
    let len = L.len ∙ E.len in
    let l : c.label_sizes-count.result ≤ a.plan.capacity = omega arith in
    let q = F.room in let few = F.few in let d = plan-down F in let e = plan-dots F in (left-inside F Q.sizes_is L len l, omega arith, omega arith, omega arith)

pub sort_labelled-requires : goal.sort_labelled-requires
sort_labelled-requires c =
    let a = c.args in
    let R = c.requires.0 in let Q = c.requires.1 in
    let F = frame-of R in
    let E = c.extract_runs-runs.ensures in
    let L = c.label_sizes-count.ensures a.ink.now (plan-sizes Q (frame-kept F E.len) (runs-held E)) in
    let len = L.len ∙ E.len in
    let W = c.measure_unit-unit.ensures.1 in
    let l : c.label_sizes-count.result ≤ a.plan.capacity = omega (arith, c.if-capacity-count.false) in
    (room-kept R (W.len ∙ len), first-held a.sheet R Q.sizes_is Q.dots_is (runs-held E) L len l W _ _ c.measure_unit-unit.ensures.0 c.total_area-total.ensures, Q)

pub returns : goal.returns
returns c =
    let a = c.args in
    let F = frame-of c.requires.0 in let Q = c.requires.1 in
    let E = c.extract_runs-runs.ensures in
    let L = c.label_sizes-count.ensures a.ink.now (plan-sizes Q (frame-kept F E.len) (runs-held E)) in
    let X = c.sort_labelled.ensures in
    (X.0 ∙ (c.measure_unit-unit.ensures.1.len ∙ (L.len ∙ E.len)), X.1)

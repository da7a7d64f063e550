use native.Mathlib.Omega.{arith}
use Prim.Native.Nat.{◌*◌}
use mathlib.Core.Path.{◌≡◌, ◌∙◌}
use mathlib.Core.Bool.{◌&&◌, not}
use borrow.Author.Tests.{eqb-true, not-true}
use lib.Dec.{eqb}
use Rattle.memory.proofs.BoolLaws.{and_left, and_right}
use Rattle.sorting.proofs.PlanLaws.{plan-across, plan-down, plan-dots, plan-rulings, frame-of, frame-kept}
use Rattle.sorting.proofs.SortLaws.{told-first, told-second, first_runs, first_inside, first-many, first_done, first-still}
use Rattle.sorting.proofs.sort.sort_labelled.Goals as goal

pub counters_at-at-requires : goal.counters_at-at-requires
counters_at-at-requires c =
    let a = c.args in
    let F = frame-of c.requires.0 in
    let r = first_runs a.sheet c.requires.0 c.requires.1 in
    let d = plan-dots F in
    let Q = c.requires.2 in
    let x = plan-across F in
    let y = plan-down F in
    (omega arith, omega arith, omega arith)

pub cut_ink-found-requires : goal.cut_ink-found-requires
cut_ink-found-requires c =
    let F = frame-of c.requires.0 in
    let e = c.counters_at-at.ensures in
    let Q = c.requires.2 in
    let m = Q.marks_is in
    (omega (arith, e.0), plan-rulings F c.counters_at-at.result _ _ (omega arith) (omega arith) (omega (arith, e.0)) (omega (arith, e.1)), Q)

pub overflow_mul-runs : goal.overflow_mul-runs
overflow_mul-runs c =
    let a = c.args in
    let r = first_runs a.sheet c.requires.0 c.requires.1 in
    let d = plan-dots (frame-of c.requires.0) in
    omega arith

pub write_kinds-requires : goal.write_kinds-requires
write_kinds-requires c =
    let a = c.args in
    let R = c.requires.0 in
    let H = c.requires.1 in
    let Q = c.requires.2 in
    let q = R.room in
    let k = H.few in
    let C = c.cut_ink-found.ensures in
    let z = C.within.len in
    (first_inside a.sheet R H c.value.result c.value.ensures C Q.sizes_is, omega arith, omega arith)

pub returns-then-at-runs : goal.returns-then-at-runs
returns-then-at-runs c =
    let a = c.args in
    let C = c.cut_ink-found.ensures in
    let W = c.write_kinds.ensures in
    let f = c.cut_ink-found.result in
    let t = c.if-at-runs.true in
    let same = eqb c.counters_at-at.result (3 * a.first.runs) in
    let u = and_left (same && not f.horizontal) (not f.vertical) t in
    let e : c.counters_at-at.result ≡ 3 * a.first.runs = eqb-true _ _ (and_left same (not f.horizontal) u) in
    (W.within.len ∙ C.within.len, first-still a.sheet c.requires.0 c.requires.1 c.value.result c.value.ensures C c.requires.2.sizes_is c.requires.2.kinds_is (omega arith) (not-true _ (and_right same (not f.horizontal) u)) (not-true _ (and_right (same && not f.horizontal) (not f.vertical) t)) W)

pub label_cuts-requires : goal.label_cuts-requires
label_cuts-requires c =
    let R = c.requires.0 in
    let C = c.cut_ink-found.ensures in
    (frame-kept (frame-of R) C.within.len, told-first R.wide C.marked, told-second R.wide C.marked, c.requires.2)

pub sort_rest-requires : goal.sort_rest-requires
sort_rest-requires c = (frame-kept (frame-of c.requires.0) (c.label_cuts.ensures.0 ∙ c.cut_ink-found.ensures.within.len), c.requires.2)

pub returns-in_err-cuts : goal.returns-in_err-cuts
returns-in_err-cuts c =
    let a = c.args in
    let C = c.cut_ink-found.ensures in
    let K = c.in_err-cuts.ensures in
    rw c.from_residual.ensures (K.0 ∙ C.within.len, first-many a.sheet c.requires.0 c.requires.1 c.value.result c.value.ensures C (K.1 _ _ C.marked))

pub returns : goal.returns
returns c =
    let a = c.args in
    let C = c.cut_ink-found.ensures in
    let K = c.in_ok-cuts.ensures in
    let X = c.sort_rest.ensures in
    (X.0 ∙ (K.0 ∙ C.within.len), first_done a.sheet c.requires.0 c.requires.1 c.value.result c.value.ensures C _ (K.1 _ _ C.marked) _ X.0 c.sort_rest.result X.1)

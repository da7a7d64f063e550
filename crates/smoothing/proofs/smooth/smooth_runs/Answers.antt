use mathlib.Core.Path.{◌≡◌, sym, ap, ◌∙◌}
use Prim.Native.Nat.{◌+◌, ◌*◌}
use native.Mathlib.Nat.{suc-mul}
use native.Mathlib.Numerals.{add-one}
use native.Mathlib.Omega.{arith}
use Rattle.smoothing.proofs.RowStepLaws.{walk-done}
use Rattle.smoothing.proofs.PageWalkLaws.{page-room, page_of, page-start, row_of, row_on}
use Rattle.smoothing.proofs.smooth.smooth_runs.Goals as goal

pub loop-y-init : goal.loop-y-init
loop-y-init c = ((let z : 0 ≡ 0 * c.args.w = omega arith in z), λ m ks plane a. page-start (page_of c.args.w c.args.h m ks plane c.args.words.now c.args.c c.args.kinds c.args.firsts c.args.gap a))

pub row_end-end-requires : goal.row_end-end-requires
row_end-end-requires c = let p = c.requires in let W = c.loop-y.invariant.1 p.0 p.1 p.2 p.3 in let a = (page-room W).0 in let b = (page-room W).1 in let d = (page-room W).2 in let e = (page-room W).3 in (W.walked.passed.upto, omega arith)

pub smooth_row-walk-requires : goal.smooth_row-walk-requires
smooth_row-walk-requires c = let p = c.requires in let W = c.loop-y.invariant.1 p.0 p.1 p.2 p.3 in (_, c.loop-y._y, W, row_of c.loop-y.walk W c.loop-y-test.true (ap (λ z. z + c.args.w) c.loop-y.invariant.0) c.row_end-end.ensures)

pub loop-y-preserved : goal.loop-y-preserved
loop-y-preserved c = ((ap (λ z. z + c.args.w) c.loop-y.invariant.0) ∙ sym (ap (λ z. z * c.args.w) (add-one c.loop-y._y) ∙ suc-mul c.loop-y._y c.args.w), λ m ks plane a. let W = c.loop-y.invariant.1 m ks plane a in row_on c.loop-y.walk W c.loop-y-test.true (ap (λ z. z + c.args.w) c.loop-y.invariant.0) c.row_end-end.ensures c.smooth_row-walk.ensures.0 (c.smooth_row-walk.ensures.1 _ c.loop-y._y W (row_of c.loop-y.walk W c.loop-y-test.true (ap (λ z. z + c.args.w) c.loop-y.invariant.0) c.row_end-end.ensures)))

pub returns : goal.returns
returns c = λ m ks plane a. walk-done (page_of c.args.w c.args.h m ks plane c.args.words.now c.args.c c.args.kinds c.args.firsts c.args.gap a) (c.loop-y.invariant.1 m ks plane a).walked c.loop-y-test.false

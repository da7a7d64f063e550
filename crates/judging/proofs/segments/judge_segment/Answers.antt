use mathlib.Core.Bool.{not}
use mathlib.Core.Path.{refl, ap}
use Rattle.std.proofs.lemmas.Result.{err_from_is_err_and}
use Rattle.memory.proofs.RefusalLaws.{number_positive}
use Rattle.judging.proofs.SegmentLaws.{sheet-no, header-no, header-yes, behind-all}
use Rattle.judging.proofs.segments.judge_segment.Goals as goal

-- `judging::segments::judge_segment` meets its contract, test by test. Assumes nothing.

pub returns-then-not-validate : goal.returns-then-not-validate
returns-then-not-validate c = sheet-no c.args.sheet c.args.store.now c.args.ink.now c.args.kinds c.args.scratch _ c.validate.ensures (ap not c.if-not-validate.true)

pub returns-in_err-judge_head : goal.returns-in_err-judge_head
returns-in_err-judge_head c =
    let p = err_from_is_err_and c.from_residual.result c.from_residual.ensures.1 in
    rw (p.1, p.2) (header-no c.args.sheet c.args.store.now c.args.ink.now c.args.kinds c.args.scratch _ c.validate.ensures (ap not c.if-not-validate.false) _ c.word_at-early.ensures _ c.in_err-judge_head.ensures (number_positive c.in_err-judge_head.field-0.0))

pub judge_behind-requires : goal.judge_behind-requires
judge_behind-requires c = header-yes c.args.sheet c.args.store.now c.args.ink.now c.args.kinds c.args.scratch _ c.validate.ensures (ap not c.if-not-validate.false) _ c.word_at-early.ensures _ c.in_ok-judge_head.ensures refl

pub returns : goal.returns
returns c = behind-all c.args.sheet c.args.store.now c.args.ink.now c.args.kinds c.args.scratch _ c.validate.ensures (ap not c.if-not-validate.false) _ c.word_at-early.ensures _ c.in_ok-judge_head.ensures refl _ c.judge_behind.ensures

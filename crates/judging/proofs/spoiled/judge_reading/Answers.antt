use mathlib.Core.Path.{refl}
use Rattle.std.proofs.lemmas.Result.{err_from_is_err_and}
use Rattle.memory.proofs.RefusalLaws.{number_positive}
use Rattle.judging.proofs.SpoiledLaws.{reading-no, reading-yes, reading-rest}
use Rattle.judging.proofs.spoiled.judge_reading.Goals as goal

-- `judging::spoiled::judge_reading` meets its contract. Assumes nothing.

pub returns-in_err-judge_head : goal.returns-in_err-judge_head
returns-in_err-judge_head c =
    let p = err_from_is_err_and c.from_residual.result c.from_residual.ensures.1 in
    rw (p.1, p.2) (reading-no c.args.store.now c.args.ink.now c.args.kinds.now c.args.lacking c.word_at-early.result c.word_at-early.ensures _ c.in_err-judge_head.ensures (number_positive c.in_err-judge_head.field-0.0))

pub judge_rest-requires : goal.judge_rest-requires
judge_rest-requires c = reading-yes c.args.store.now c.args.ink.now c.args.kinds.now c.args.lacking c.word_at-early.result c.word_at-early.ensures _ c.in_ok-judge_head.ensures refl

pub returns : goal.returns
returns c = reading-rest c.args.store.now c.args.ink.now c.args.kinds.now c.args.lacking c.word_at-early.result c.word_at-early.ensures _ c.in_ok-judge_head.ensures refl _ c.judge_rest.ensures

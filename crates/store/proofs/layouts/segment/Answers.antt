use Rattle.std.proofs.lemmas.Result.{err_from_is_err_and}
use Rattle.memory.proofs.RefusalLaws.{number_positive}
use Rattle.store.proofs.SegmentedLaws.{judged-no}
use mathlib.Core.Path.{refl}
use Rattle.store.proofs.layouts.segment.Goals as goal

-- `store::layouts::segment` meets its contract: one judgement, then one worker. Assumes nothing.

pub returns-in_err-judge_segment : goal.returns-in_err-judge_segment
returns-in_err-judge_segment c =
    let p = err_from_is_err_and c.from_residual.result c.from_residual.ensures.1 in
    rw (p.1, p.2) ((judged-no c.args.sheet c.args.store.now c.args.ink.now c.args.kinds.now _ _ c.in_err-judge_segment.ensures (number_positive c.in_err-judge_segment.field-0.0), refl, refl))

use Rattle.std.proofs.lemmas.Result.{err_from_is_err_and}
use Rattle.memory.proofs.RefusalLaws.{number_positive}
use mathlib.Core.Path.{refl}
use Rattle.store.proofs.TellLaws.{figures-refused, figures-room, figures-done}
use Rattle.store.proofs.figures.read_figures.Goals as goal

-- `store::figures::read_figures` meets its contract. Assumes nothing.

pub returns-in_err-judge_reading : goal.returns-in_err-judge_reading
returns-in_err-judge_reading c =
    let p = err_from_is_err_and c.from_residual.result c.from_residual.ensures.1 in
    rw (p.1, p.2) (figures-refused c.args.store.now c.args.ink.now c.args.kinds.now c.args.out.now _ c.in_err-judge_reading.ensures (number_positive c.in_err-judge_reading.field-0.0))

pub put_figures-requires : goal.put_figures-requires
put_figures-requires c = figures-room c.args.store.now c.args.ink.now c.args.kinds.now c.args.out.now 0 c.in_ok-judge_reading.ensures refl

pub returns : goal.returns
returns c = figures-done c.args.store.now c.args.ink.now c.args.kinds.now c.args.out.now 0 c.in_ok-judge_reading.ensures refl _ c.put_figures.ensures

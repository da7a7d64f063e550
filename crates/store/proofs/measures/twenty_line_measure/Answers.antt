use Rattle.std.proofs.lemmas.Result.{err_from_is_err_and}
use Rattle.memory.proofs.RefusalLaws.{number_positive}
use mathlib.Core.Path.{refl}
use Rattle.store.specs.rules.Readings.{ResultReading}
use Rattle.store.proofs.ToldLaws.{told-refused, told-good}
use Rattle.store.proofs.LineReads.{lines_at_lem, twenty-done}
use Rattle.store.proofs.measures.twenty_line_measure.Goals as goal

-- `store::measures::twenty_line_measure` meets its contract. Assumes nothing.

pub returns-in_err-judge_reading : goal.returns-in_err-judge_reading
returns-in_err-judge_reading c =
    let p = err_from_is_err_and c.from_residual.result c.from_residual.ensures.1 in
    rw (p.1, p.2) (told-refused ResultReading.twenty_lines c.args.store.now c.args.ink.now c.args.kinds.now _ c.in_err-judge_reading.ensures (number_positive c.in_err-judge_reading.field-0.0))

pub twenty_read-requires : goal.twenty_read-requires
twenty_read-requires c = lines_at_lem c.args.store.now c.args.ink.now c.args.kinds.now (told-good ResultReading.twenty_lines c.args.store.now c.args.ink.now c.args.kinds.now 0 c.in_ok-judge_reading.ensures refl).0

pub returns : goal.returns
returns c = twenty-done c.args.store.now c.args.ink.now c.args.kinds.now (told-good ResultReading.twenty_lines c.args.store.now c.args.ink.now c.args.kinds.now 0 c.in_ok-judge_reading.ensures refl).0 0 c.in_ok-judge_reading.ensures refl c.twenty_read.result c.twenty_read.ensures

use Rattle.std.proofs.lemmas.Result.{err_from_is_err_and}
use Rattle.memory.proofs.RefusalLaws.{number_positive}
use mathlib.Core.Path.{refl}
use borrow.Author.Tests.{ltb-false}
use lib.ListN.{length}
use Rattle.store.specs.rules.Readings.{ResultReading}
use Rattle.store.proofs.ToldLaws.{told-refused, told-good}
use Rattle.store.proofs.LineReads.{lines_at_lem, dots-fit, summary-done}
use Rattle.store.proofs.measures.read_summary.Goals as goal

-- `store::measures::read_summary` meets its contract. Assumes nothing.

pub returns-in_err-judge_reading : goal.returns-in_err-judge_reading
returns-in_err-judge_reading c =
    let p = err_from_is_err_and c.from_residual.result c.from_residual.ensures.1 in
    rw (p.1, p.2) (told-refused (ResultReading.summary c.args.out.now) c.args.store.now c.args.ink.now c.args.kinds.now _ c.in_err-judge_reading.ensures (number_positive c.in_err-judge_reading.field-0.0))

pub summary_of-requires : goal.summary_of-requires
summary_of-requires c = record { lines = lines_at_lem c.args.store.now c.args.ink.now c.args.kinds.now (told-good (ResultReading.summary c.args.out.now) c.args.store.now c.args.ink.now c.args.kinds.now 0 c.in_ok-judge_reading.ensures refl).0; dots = dots-fit c.args.store.now c.args.ink.now c.args.kinds.now (told-good (ResultReading.summary c.args.out.now) c.args.store.now c.args.ink.now c.args.kinds.now 0 c.in_ok-judge_reading.ensures refl).0 }

pub put_summary-requires : goal.put_summary-requires
put_summary-requires c = ltb-false (length c.args.out.now) 12 (told-good (ResultReading.summary c.args.out.now) c.args.store.now c.args.ink.now c.args.kinds.now 0 c.in_ok-judge_reading.ensures refl).1

pub returns : goal.returns
returns c = summary-done c.args.store.now c.args.ink.now c.args.kinds.now (told-good (ResultReading.summary c.args.out.now) c.args.store.now c.args.ink.now c.args.kinds.now 0 c.in_ok-judge_reading.ensures refl).0 c.args.out.now 0 c.in_ok-judge_reading.ensures refl c.summary_of.result c.summary_of.ensures _ c.put_summary.ensures

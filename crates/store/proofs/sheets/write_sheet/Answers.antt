use Rattle.std.proofs.lemmas.Result.{err_from_is_err_and}
use Rattle.memory.proofs.RefusalLaws.{number_positive}
use mathlib.Core.Path.{refl}
use native.Mathlib.Omega.{arith}
use Rattle.store.specs.rules.Readings.{ResultReading}
use Rattle.store.proofs.ToldLaws.{told-refused, told-good}
use Rattle.store.proofs.TellLaws.{lists_at_lem}
use Rattle.store.proofs.SheetReads.{sheet-short, sheet-done}
use Rattle.store.proofs.sheets.write_sheet.Goals as goal

pub returns-in_err-judge_reading : goal.returns-in_err-judge_reading
returns-in_err-judge_reading c =
    let p = err_from_is_err_and c.from_residual.result c.from_residual.ensures.1 in
    rw (p.1, p.2) (told-refused (ResultReading.listing c.args.out.now) c.args.store.now c.args.ink.now c.args.kinds.now _ c.in_err-judge_reading.ensures (number_positive c.in_err-judge_reading.field-0.0))

pub sheet_size-size-requires : goal.sheet_size-size-requires
sheet_size-size-requires c = lists_at_lem c.args.store.now c.args.ink.now c.args.kinds.now (told-good (ResultReading.listing c.args.out.now) c.args.store.now c.args.ink.now c.args.kinds.now 0 c.in_ok-judge_reading.ensures refl).0

pub returns-then-out-size : goal.returns-then-out-size
returns-then-out-size c =
    sheet-short c.args.store.now c.args.ink.now c.args.kinds.now (told-good (ResultReading.listing c.args.out.now) c.args.store.now c.args.ink.now c.args.kinds.now 0 c.in_ok-judge_reading.ensures refl).0 c.args.out.now 0 c.in_ok-judge_reading.ensures refl c.sheet_size-size.result c.sheet_size-size.ensures.0 c.if-out-size.true

pub put_sheet-requires : goal.put_sheet-requires
put_sheet-requires c = record { lists = lists_at_lem c.args.store.now c.args.ink.now c.args.kinds.now (told-good (ResultReading.listing c.args.out.now) c.args.store.now c.args.ink.now c.args.kinds.now 0 c.in_ok-judge_reading.ensures refl).0; room = omega (arith, c.sheet_size-size.ensures.0) }

pub returns : goal.returns
returns c =
    sheet-done c.args.store.now c.args.ink.now c.args.kinds.now (told-good (ResultReading.listing c.args.out.now) c.args.store.now c.args.ink.now c.args.kinds.now 0 c.in_ok-judge_reading.ensures refl).0 c.args.out.now 0 c.in_ok-judge_reading.ensures refl c.sheet_size-size.result c.sheet_size-size.ensures.0 c.if-out-size.false c.put_sheet.new.out c.put_sheet.ensures

use Rattle.std.proofs.lemmas.Result.{err_from_is_err_and}
use Rattle.memory.proofs.RefusalLaws.{number_positive}
use mathlib.Core.Path.{refl}
use native.Mathlib.Omega.{arith}
use Rattle.store.specs.rules.Readings.{ResultReading}
use Rattle.store.proofs.ToldLaws.{told-refused, told-good}
use Rattle.store.proofs.DotReads.{here, kind-low, count-bad, count-done}
use Rattle.store.proofs.dots.count_dots.Goals as goal

-- `store::dots::count_dots` meets its contract. Assumes nothing.

pub returns-in_err-judge_reading : goal.returns-in_err-judge_reading
returns-in_err-judge_reading c =
    let p = err_from_is_err_and c.from_residual.result c.from_residual.ensures.1 in
    rw (p.1, p.2) (told-refused (ResultReading.count_dots c.args.kind c.args.r) c.args.store.now c.args.ink.now c.args.kinds.now _ c.in_err-judge_reading.ensures (number_positive c.in_err-judge_reading.field-0.0))

pub bounds-store-3 : goal.bounds-store-3
bounds-store-3 c =
    let r = (told-good (ResultReading.count_dots c.args.kind c.args.r) c.args.store.now c.args.ink.now c.args.kinds.now 0 c.in_ok-judge_reading.ensures refl).0.words in
    omega arith

pub bounds-store-4 : goal.bounds-store-4
bounds-store-4 c =
    let r = (told-good (ResultReading.count_dots c.args.kind c.args.r) c.args.store.now c.args.ink.now c.args.kinds.now 0 c.in_ok-judge_reading.ensures refl).0.words in
    omega arith

pub returns-then-bad_dots : goal.returns-then-bad_dots
returns-then-bad_dots c = count-bad c.args.store.now c.args.ink.now c.args.kinds.now (told-good (ResultReading.count_dots c.args.kind c.args.r) c.args.store.now c.args.ink.now c.args.kinds.now 0 c.in_ok-judge_reading.ensures refl).0 c.args.kind c.args.r c.bad_dots.result c.bad_dots.ensures 0 c.in_ok-judge_reading.ensures refl c.if-bad_dots.true

pub overflow_cast-kind : goal.overflow_cast-kind
overflow_cast-kind c =
    let l = kind-low c.args.store.now c.args.ink.now c.args.kinds.now (told-good (ResultReading.count_dots c.args.kind c.args.r) c.args.store.now c.args.ink.now c.args.kinds.now 0 c.in_ok-judge_reading.ensures refl).0 c.args.kind c.args.r c.bad_dots.result c.bad_dots.ensures 0 c.in_ok-judge_reading.ensures refl c.if-bad_dots.false in
    omega arith

pub counted-n-requires : goal.counted-n-requires
counted-n-requires c = here c.args.store.now c.args.ink.now c.args.kinds.now (told-good (ResultReading.count_dots c.args.kind c.args.r) c.args.store.now c.args.ink.now c.args.kinds.now 0 c.in_ok-judge_reading.ensures refl).0

pub returns : goal.returns
returns c = count-done c.args.store.now c.args.ink.now c.args.kinds.now (told-good (ResultReading.count_dots c.args.kind c.args.r) c.args.store.now c.args.ink.now c.args.kinds.now 0 c.in_ok-judge_reading.ensures refl).0 c.args.kind c.args.r c.bad_dots.result c.bad_dots.ensures 0 c.in_ok-judge_reading.ensures refl c.if-bad_dots.false c.counted-n.result c.counted-n.ensures

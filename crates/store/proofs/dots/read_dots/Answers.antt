use Rattle.std.proofs.lemmas.Result.{err_from_is_err_and}
use Rattle.memory.proofs.RefusalLaws.{number_positive}
use mathlib.Core.Path.{refl}
use native.Mathlib.Omega.{arith}
use Rattle.store.specs.rules.Readings.{ResultReading}
use Rattle.store.proofs.ToldLaws.{told-refused, told-good}
use Rattle.store.proofs.DotReads.{here, kind-low, dots-bad, dots-short, dots-room, dots-done}
use Rattle.store.proofs.dots.read_dots.Goals as goal

-- `store::dots::read_dots` meets its contract. Assumes nothing.

pub returns-in_err-judge_reading : goal.returns-in_err-judge_reading
returns-in_err-judge_reading c =
    let p = err_from_is_err_and c.from_residual.result c.from_residual.ensures.1 in
    rw (p.1, p.2) (told-refused (ResultReading.dots c.args.kind c.args.r c.args.out.now) c.args.store.now c.args.ink.now c.args.kinds.now _ c.in_err-judge_reading.ensures (number_positive c.in_err-judge_reading.field-0.0))

pub bounds-store-3 : goal.bounds-store-3
bounds-store-3 c =
    let r = (told-good (ResultReading.dots c.args.kind c.args.r c.args.out.now) c.args.store.now c.args.ink.now c.args.kinds.now 0 c.in_ok-judge_reading.ensures refl).0.words in
    omega arith

pub bounds-store-4 : goal.bounds-store-4
bounds-store-4 c =
    let r = (told-good (ResultReading.dots c.args.kind c.args.r c.args.out.now) c.args.store.now c.args.ink.now c.args.kinds.now 0 c.in_ok-judge_reading.ensures refl).0.words in
    omega arith

pub returns-then-bad_dots : goal.returns-then-bad_dots
returns-then-bad_dots c = dots-bad c.args.store.now c.args.ink.now c.args.kinds.now (told-good (ResultReading.dots c.args.kind c.args.r c.args.out.now) c.args.store.now c.args.ink.now c.args.kinds.now 0 c.in_ok-judge_reading.ensures refl).0 c.args.kind c.args.r c.bad_dots.result c.bad_dots.ensures 0 c.in_ok-judge_reading.ensures refl c.args.out.now c.if-bad_dots.true

pub overflow_cast-k : goal.overflow_cast-k
overflow_cast-k c =
    let l = kind-low c.args.store.now c.args.ink.now c.args.kinds.now (told-good (ResultReading.dots c.args.kind c.args.r c.args.out.now) c.args.store.now c.args.ink.now c.args.kinds.now 0 c.in_ok-judge_reading.ensures refl).0 c.args.kind c.args.r c.bad_dots.result c.bad_dots.ensures 0 c.in_ok-judge_reading.ensures refl c.if-bad_dots.false in
    omega arith

pub counted-n-requires : goal.counted-n-requires
counted-n-requires c = here c.args.store.now c.args.ink.now c.args.kinds.now (told-good (ResultReading.dots c.args.kind c.args.r c.args.out.now) c.args.store.now c.args.ink.now c.args.kinds.now 0 c.in_ok-judge_reading.ensures refl).0

pub returns-then-out-n : goal.returns-then-out-n
returns-then-out-n c = dots-short c.args.store.now c.args.ink.now c.args.kinds.now (told-good (ResultReading.dots c.args.kind c.args.r c.args.out.now) c.args.store.now c.args.ink.now c.args.kinds.now 0 c.in_ok-judge_reading.ensures refl).0 c.args.kind c.args.r c.bad_dots.result c.bad_dots.ensures 0 c.in_ok-judge_reading.ensures refl c.args.out.now c.if-bad_dots.false c.counted-n.result c.counted-n.ensures c.if-out-n.true

pub written-requires : goal.written-requires
written-requires c = record { frame_here = here c.args.store.now c.args.ink.now c.args.kinds.now (told-good (ResultReading.dots c.args.kind c.args.r c.args.out.now) c.args.store.now c.args.ink.now c.args.kinds.now 0 c.in_ok-judge_reading.ensures refl).0; room = dots-room c.args.store.now c.args.ink.now c.args.kinds.now (told-good (ResultReading.dots c.args.kind c.args.r c.args.out.now) c.args.store.now c.args.ink.now c.args.kinds.now 0 c.in_ok-judge_reading.ensures refl).0 c.args.kind c.args.r c.bad_dots.result c.bad_dots.ensures 0 c.in_ok-judge_reading.ensures refl c.args.out.now c.if-bad_dots.false c.counted-n.result c.counted-n.ensures c.if-out-n.false }

pub returns : goal.returns
returns c = dots-done c.args.store.now c.args.ink.now c.args.kinds.now (told-good (ResultReading.dots c.args.kind c.args.r c.args.out.now) c.args.store.now c.args.ink.now c.args.kinds.now 0 c.in_ok-judge_reading.ensures refl).0 c.args.kind c.args.r c.bad_dots.result c.bad_dots.ensures 0 c.in_ok-judge_reading.ensures refl c.args.out.now c.if-bad_dots.false c.counted-n.result c.counted-n.ensures c.if-out-n.false _ c.written.ensures

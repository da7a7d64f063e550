use Rattle.std.proofs.lemmas.Result.{err_from_is_err_and}
use Rattle.memory.proofs.RefusalLaws.{number_positive}
use mathlib.Core.Path.{refl}
use mathlib.Core.Path.{ap, ◌∙◌}
use lib.ListN.{length}
use native.Mathlib.Omega.{arith}
use Rattle.memory.specs.rules.Words.{over}
use Rattle.store.specs.rules.Readings.{ResultReading}
use Rattle.store.specs.stages.Areas.{which_of}
use Rattle.store.proofs.ToldLaws.{told-refused, told-good}
use Rattle.store.proofs.TellLaws.{lists_at_lem, list-short, list_done}
use Rattle.store.proofs.lists.read_list.Goals as goal

pub returns-in_err-judge_reading : goal.returns-in_err-judge_reading
returns-in_err-judge_reading c =
    let p = err_from_is_err_and c.from_residual.result c.from_residual.ensures.1 in
    rw (p.1, p.2) (told-refused (ResultReading.list (which_of c.args.which) c.args.out.now) c.args.store.now c.args.ink.now c.args.kinds.now _ c.in_err-judge_reading.ensures (number_positive c.in_err-judge_reading.field-0.0))

pub list_of-list-requires : goal.list_of-list-requires
list_of-list-requires c = lists_at_lem c.args.store.now c.args.ink.now c.args.kinds.now (told-good (ResultReading.list (which_of c.args.which) c.args.out.now) c.args.store.now c.args.ink.now c.args.kinds.now 0 c.in_ok-judge_reading.ensures refl).0

pub returns-then-out-list : goal.returns-then-out-list
returns-then-out-list c =
    let e = ap length c.list_of-list.ensures in
    list-short c.args.store.now c.args.ink.now c.args.kinds.now (told-good (ResultReading.list (which_of c.args.which) c.args.out.now) c.args.store.now c.args.ink.now c.args.kinds.now 0 c.in_ok-judge_reading.ensures refl).0 (which_of c.args.which) c.args.out.now 0 c.in_ok-judge_reading.ensures refl (omega (arith, c.if-out-list.true))

pub count_of-requires : goal.count_of-requires
count_of-requires c = lists_at_lem c.args.store.now c.args.ink.now c.args.kinds.now (told-good (ResultReading.list (which_of c.args.which) c.args.out.now) c.args.store.now c.args.ink.now c.args.kinds.now 0 c.in_ok-judge_reading.ensures refl).0

pub returns : goal.returns
returns c =
    let l = c.list_of-list.ensures in
    let e = ap length l in
    list_done c.args.store.now c.args.ink.now c.args.kinds.now (told-good (ResultReading.list (which_of c.args.which) c.args.out.now) c.args.store.now c.args.ink.now c.args.kinds.now 0 c.in_ok-judge_reading.ensures refl).0 (which_of c.args.which) c.args.out.now 0 c.in_ok-judge_reading.ensures refl (omega (arith, c.if-out-list.false)) c.count_of.result c.copy_over.new.dst c.count_of.ensures
    (c.copy_over.ensures ∙ ap (λ z. over z c.args.out.now) l)

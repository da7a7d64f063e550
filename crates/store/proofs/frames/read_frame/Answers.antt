use Rattle.std.proofs.lemmas.Result.{err_from_is_err_and}
use Rattle.memory.proofs.RefusalLaws.{number_positive}
use mathlib.Core.Path.{refl}
use mathlib.Core.Path.{sym, ap, ◌∙◌}
use mathlib.Core.List.{List}
use Prim.Native.Nat.{ℕ}
use borrow.Author.Tests.{ltb-false}
use Rattle.memory.specs.rules.Words.{over}
use Rattle.judging.proofs.LevelLaws.{readable}
use Rattle.store.specs.rules.Readings.{LevelReading}
use Rattle.store.specs.rules.Readings.Output.{words}
use Rattle.store.specs.rules.Outcomes.{told}
use Rattle.store.proofs.MappingLaws.{reading-no, reading-yes, frame-read}
use Rattle.store.proofs.frames.read_frame.Goals as goal

-- `store::frames::read_frame` meets its contract: one judgement, then one worker. Assumes nothing.

pub returns-in_err-judge_figures : goal.returns-in_err-judge_figures
returns-in_err-judge_figures c =
    let p = err_from_is_err_and c.from_residual.result c.from_residual.ensures.1 in
    rw (p.1, p.2) (reading-no (LevelReading.frame_figures c.args.out.now) c.args.store.now _ c.in_err-judge_figures.ensures (number_positive c.in_err-judge_figures.field-0.0))

pub put_frame-requires : goal.put_frame-requires
put_frame-requires c =
    let R = readable c.args.store.now _ _ (sym c.in_ok-judge_figures.ensures) in
    (R.words, ltb-false _ _ R.enough)

pub returns : goal.returns
returns c =
    let R = readable c.args.store.now _ _ (sym c.in_ok-judge_figures.ensures) in
    ap (λ (z : List ℕ). told 0 0 (words z)) (c.put_frame.ensures ∙ ap (λ (v : List ℕ). over v c.args.out.now) (frame-read c.args.store.now _ _ R))
    ∙ reading-yes (LevelReading.frame_figures c.args.out.now) c.args.store.now _ c.in_ok-judge_figures.ensures refl

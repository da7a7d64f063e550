use Rattle.std.proofs.lemmas.Result.{err_from_is_err_and}
use Rattle.memory.proofs.RefusalLaws.{number_positive}
use mathlib.Core.Path.{refl}
use mathlib.Core.Path.{ap, ◌∙◌}
use mathlib.Core.List.{List}
use Prim.Native.Nat.{ℕ}
use Rattle.store.specs.rules.Readings.{LevelReading}
use Rattle.store.specs.rules.Readings.Output.{words}
use Rattle.store.specs.rules.Outcomes.{told}
use Rattle.store.proofs.MappingLaws.{reading-no, reading-yes}
use Rattle.store.proofs.mappings.level_gray.Goals as goal

-- `store::mappings::level_gray` meets its contract: one judgement, then one worker. Assumes nothing.

pub returns-in_err-judge_gray : goal.returns-in_err-judge_gray
returns-in_err-judge_gray c =
    let p = err_from_is_err_and c.from_residual.result c.from_residual.ensures.1 in
    rw (p.1, p.2) (reading-no (LevelReading.gray c.args.gray.now c.args.out.now) c.args.store.now _ c.in_err-judge_gray.ensures (number_positive c.in_err-judge_gray.field-0.0))

pub returns : goal.returns
returns c =
    ap (λ (z : List ℕ). told 0 0 (words z)) c.put_gray.ensures
    ∙ reading-yes (LevelReading.gray c.args.gray.now c.args.out.now) c.args.store.now _ c.in_ok-judge_gray.ensures refl

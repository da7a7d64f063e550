use Rattle.std.proofs.lemmas.Result.{err_from_is_err_and}
use Rattle.memory.proofs.RefusalLaws.{number_positive}
use mathlib.Core.Path.{refl}
use Rattle.judging.proofs.LevelLaws.{header-passed, level-stopped, level-judged}
use Rattle.store.proofs.held_frames.level_size.Goals as goal

-- `store::held_frames::level_size` meets its contract. Assumes nothing.

pub returns-in_err-level_head : goal.returns-in_err-level_head
returns-in_err-level_head c =
    let p = err_from_is_err_and c.from_residual.result c.from_residual.ensures.1 in
    rw (p.1, p.2) (λ lacking bad. level-stopped c.args.store.now _ c.in_err-level_head.ensures lacking bad (number_positive c.in_err-level_head.field-0.0))

pub frame_held-requires : goal.frame_held-requires
frame_held-requires c = header-passed c.args.store.now _ c.in_ok-level_head.ensures refl

pub returns : goal.returns
returns c =
    let p = header-passed c.args.store.now _ c.in_ok-level_head.ensures refl in
    let f = c.frame_held.ensures in
    record {
      words = p.0;
      limits = p.1;
      wide = f.0;
      high = f.1;
      w_fits = f.2;
      h_fits = f.3;
      judged = λ lacking bad. level-judged c.args.store.now _ c.in_ok-level_head.ensures lacking bad refl _ refl;
    }

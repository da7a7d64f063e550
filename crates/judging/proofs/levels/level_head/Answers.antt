use Rattle.judging.proofs.LevelLaws.{state-held}
use Rattle.judging.proofs.levels.level_head.Goals as goal

-- `judging::levels::level_head` meets its contract. Assumes nothing.

pub returns : goal.returns
returns c = state-held c.args.store.now _ _ c.word_at-early.ensures c.judge_head.ensures

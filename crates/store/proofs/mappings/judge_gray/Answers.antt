use mathlib.Core.Path.{◌∙◌}
use Rattle.store.proofs.MappingLaws.{gray-judged}
use Rattle.store.proofs.mappings.judge_gray.Goals as goal

-- `store::mappings::judge_gray` meets its contract, test by test. Assumes nothing.

pub returns : goal.returns
returns c = let h = c.in_ok-size.ensures in gray-judged c.args.store.now c.args.gray c.args.out _ _ _ _ _ _ _ c.word_at.ensures c.word_at-2.ensures c.area-page.ensures h.wide h.high c.area-dots.ensures c.judge_frame.ensures ∙ h.judged _ _

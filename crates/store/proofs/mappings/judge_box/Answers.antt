use mathlib.Core.Path.{◌∙◌}
use Rattle.store.proofs.MappingLaws.{box-judged}
use Rattle.store.proofs.mappings.judge_box.Goals as goal

-- `store::mappings::judge_box` meets its contract, test by test. Assumes nothing.

pub returns : goal.returns
returns c = let h = c.in_ok-size.ensures in box-judged c.args.store.now c.args.r _ _ _ _ h.wide h.high c.judge_frame.ensures ∙ h.judged _ _

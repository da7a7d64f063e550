use mathlib.Core.Path.{◌∙◌}
use Rattle.store.proofs.MappingLaws.{point-judged}
use Rattle.store.proofs.points.judge_point.Goals as goal

-- `store::points::judge_point` meets its contract, test by test. Assumes nothing.

pub returns : goal.returns
returns c = let h = c.in_ok-size.ensures in point-judged c.args.store.now c.args.x c.args.y _ _ _ _ h.wide h.high c.judge_frame.ensures ∙ h.judged _ _

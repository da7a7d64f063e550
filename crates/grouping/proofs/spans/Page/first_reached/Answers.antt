use Prim.Native.Nat.{◌+◌, ◌/◌}
use Rattle.grouping.specs.stages.Dots.{page_frame}
use mathlib.Core.Path.{sym, ◌∙◌}
use native.Mathlib.Omega.{arith}
use Rattle.grouping.proofs.SpanLaws.{short-there, first-reached-low, first-reached-high}
use Rattle.grouping.proofs.spans.Page.first_reached.Goals as goal

pub loop-low-preserved-then-is_short : goal.loop-low-preserved-then-is_short
loop-low-preserved-then-is_short c = (omega arith, omega arith, first-reached-low c.requires.0 c.args.end.r c.args.end.falls c.args.end.start c.requires.1 c.args.y c.requires.2 ((c.loop-low.low + c.loop-low.high) / 2) (omega arith) (sym (short-there (page_frame c.args.self.now) ((c.loop-low.low + c.loop-low.high) / 2) c.args.y c.args.end.r c.args.end.falls c.args.end.start c.point.ensures.0 c.point.ensures.1 c.is_short.ensures) ∙ c.if-is_short.true), c.loop-low.invariant.3)

pub loop-low-preserved : goal.loop-low-preserved
loop-low-preserved c = (omega arith, omega arith, c.loop-low.invariant.2, first-reached-high c.requires.0 c.args.end.r c.args.end.falls c.args.end.start c.requires.1 c.args.y c.requires.2 ((c.loop-low.low + c.loop-low.high) / 2) (sym (short-there (page_frame c.args.self.now) ((c.loop-low.low + c.loop-low.high) / 2) c.args.y c.args.end.r c.args.end.falls c.args.end.start c.point.ensures.0 c.point.ensures.1 c.is_short.ensures) ∙ c.if-is_short.false))

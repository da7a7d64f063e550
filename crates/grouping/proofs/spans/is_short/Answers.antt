use Rattle.grouping.specs.stages.Dots.{is_short}
use Rattle.grouping.proofs.SpanLaws.{short-same}
use Rattle.grouping.proofs.spans.is_short.Goals as goal

pub returns-then-end-2 : goal.returns-then-end-2
unfolding is_short
returns-then-end-2 c = short-same c.args.end.r c.args.p.x c.args.p.y c.if-end-2.true c.if-end.true

pub returns-then-end : goal.returns-then-end
unfolding is_short
returns-then-end c = short-same c.args.end.r c.args.p.x c.args.p.y c.if-end-2.false c.if-end.true

pub returns-then-end-3 : goal.returns-then-end-3
unfolding is_short
returns-then-end-3 c = short-same c.args.end.r c.args.p.x c.args.p.y c.if-end-3.true c.if-end.false

pub returns : goal.returns
unfolding is_short
returns c = short-same c.args.end.r c.args.p.x c.args.p.y c.if-end-3.false c.if-end.false

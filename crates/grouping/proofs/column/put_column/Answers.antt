use Rattle.grouping.proofs.ColumnWords.{put_first, put_on, put-new}
use native.Mathlib.Omega.{arith}
use Rattle.grouping.proofs.column.put_column.Goals as goal

pub returns-then-n-eq0 : goal.returns-then-n-eq0
returns-then-n-eq0 c = λ cs s z e. put_first c.args.gap c.args.x c.args.out.now c.new_column.new.out c.new_column.result cs s (omega arith) c.new_column.ensures.0 c.new_column.ensures.1 (omega arith) e

pub returns-then-x-out : goal.returns-then-x-out
returns-then-x-out c = λ cs s z e. put_on c.args.gap c.args.x c.args.n c.args.out.now cs s (omega arith) c.if-x-out.true c.requires.0 z e

pub returns : goal.returns
returns c = λ cs s z e. put-new c.args.gap c.args.x c.args.n c.args.out.now c.new_column-2.new.out c.new_column-2.result cs s (omega arith) c.if-x-out.false c.requires.0 c.new_column-2.ensures.0 c.new_column-2.ensures.1 z e

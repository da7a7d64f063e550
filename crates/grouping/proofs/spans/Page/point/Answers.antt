use mathlib.Core.Path.{refl}
use native.Mathlib.Omega.{arith}
use Rattle.grouping.proofs.SpanLaws.{row_read, point}
use Rattle.grouping.proofs.spans.Page.point.Goals as goal

pub returns : goal.returns
returns c = let p = point c.requires.0 c.args.c c.args.y c.requires.1 c.requires.2 refl refl in (p.column-is, p.row_is)

pub bounds-self-row : goal.bounds-self-row
bounds-self-row c = (row_read c.requires.0 c.args.c c.args.y c.requires.1 c.requires.2 refl).1

pub overflow_cast-result : goal.overflow_cast-result
overflow_cast-result c = let a = (point c.requires.0 c.args.c c.args.y c.requires.1 c.requires.2 refl refl).column-low in omega arith

pub overflow_cast-result-2 : goal.overflow_cast-result-2
overflow_cast-result-2 c = let a = (point c.requires.0 c.args.c c.args.y c.requires.1 c.requires.2 refl refl).row_low in omega arith

use Rattle.labelling.proofs.ExtractLaws.{byte-bit}
use Prim.Native.Nat.{◌+◌, ◌*◌}
use mathlib.Core.Path.{ap, ◌∙◌}
use mathlib.Core.Bool.{Bool, cond}
use Rattle.grouping.specs.stages.Dots.{page_frame, asked}
use Rattle.grouping.proofs.DotLaws.{count-dot, count-few, dot-below, bit-at-most, row-start, row-end}
use Rattle.memory.proofs.PlaceLaws.{count-gap}
use native.Mathlib.Omega.{arith}
use Rattle.grouping.proofs.dots.DotQuery.count_row.Goals as goal

pub loop-c-init : goal.loop-c-init
loop-c-init c = (c.column_span-columns.ensures.first_inside, count-gap (row-start c.args.self.now.kinds.now c.args.self.now.kind c.column_span-columns.ensures) c.requires.3)

pub overflow_add-m : goal.overflow_add-m
overflow_add-m c = let f = count-few (asked c.args.self.now) (c.args.y * c.args.self.now.page.sides.page_w + c.loop-c.c) in let b = dot-below c.args.y c.loop-c.c c.args.self.now.page.sides.page_w c.args.self.now.page.sides.page_h (omega (arith, c.column_span-columns.ensures.end_inside)) c.requires.2 c.requires.0.page_wide c.requires.0.page_high in let q = bit-at-most c.is_listed.result c.from-m.result (c.from-m.ensures ∙ byte-bit c.is_listed.result) in omega arith

pub loop-c-preserved : goal.loop-c-preserved
loop-c-preserved c = (omega (arith, c.column_span-columns.ensures.end_inside), count-dot (page_frame c.args.self.now.page) c.args.self.now.kinds.now c.args.self.now.kind c.args.self.now.r c.loop-c.c c.args.y c.loop-c.m c.from-m.result (omega (arith, c.column_span-columns.ensures.end_inside)) c.loop-c.invariant.1 (c.from-m.ensures ∙ byte-bit c.is_listed.result ∙ ap (λ (t : Bool). cond t 1 0) c.is_listed.ensures))

pub returns : goal.returns
returns c = count-gap (row-end c.args.self.now.kinds.now c.args.self.now.kind c.column_span-columns.ensures c.loop-c.c (omega arith) c.loop-c.invariant.0) c.loop-c.invariant.1

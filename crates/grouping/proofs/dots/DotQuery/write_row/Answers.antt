use Prim.Native.Nat.{◌+◌, ◌*◌}
use mathlib.Core.Path.{refl, sym, ◌∙◌}
use Rattle.grouping.specs.stages.Dots.{page_frame, asked}
use Rattle.grouping.proofs.DotLaws.{count-few, dot-below, dot-room, dots-yes, dots-no, count-dot-yes, count-dot-no, row-start, row-end, dots-gap}
use Rattle.memory.proofs.PlaceLaws.{count-gap}
use Rattle.grouping.proofs.SpanLaws.{sheared}
use native.Mathlib.Omega.{arith}
use Rattle.grouping.proofs.dots.DotQuery.write_row.Goals as goal
use Rattle.grouping.proofs.dots.DotQuery.write_row.Goals.{else-is_listed, then-is_listed}

pub column_span-columns-requires : goal.column_span-columns-requires
column_span-columns-requires c = (sheared c.requires.0 c.requires.1, c.requires.2)

pub loop-c-init : goal.loop-c-init
loop-c-init c = (c.column_span-columns.ensures.first_inside, refl, count-gap (row-start c.args.self.now.kinds.now c.args.self.now.kind c.column_span-columns.ensures) c.requires.3, λ s. dots-gap c.args.self.now.page.sides.page_w s c.args.out.now (row-start c.args.self.now.kinds.now c.args.self.now.kind c.column_span-columns.ensures))

pub is_listed-requires : goal.is_listed-requires
is_listed-requires c = (c.requires.0, c.requires.1, omega (arith, c.column_span-columns.ensures.end_inside), c.requires.2)

pub put_dot-requires : goal.put_dot-requires
put_dot-requires c = let e = dot-room (page_frame c.args.self.now.page) c.args.self.now.kinds.now c.args.self.now.kind c.args.self.now.r c.loop-c.c c.args.y (omega (arith, c.column_span-columns.ensures.end_inside)) c.requires.2 (sym c.is_listed.ensures ∙ c.if-is_listed.true) in omega arith

pub overflow_add-m : goal.overflow_add-m
overflow_add-m c = let f = count-few (asked c.args.self.now) (c.args.y * c.args.self.now.page.sides.page_w + c.loop-c.c) in let b = dot-below c.args.y c.loop-c.c c.args.self.now.page.sides.page_w c.args.self.now.page.sides.page_h (omega (arith, c.column_span-columns.ensures.end_inside)) c.requires.2 c.requires.0.page_wide c.requires.0.page_high in omega arith

pub loop-c-preserved : goal.loop-c-preserved
loop-c-preserved c = elim c.if-is_listed.branch [
  | then-is_listed w ↦ let e = dot-room (page_frame c.args.self.now.page) c.args.self.now.kinds.now c.args.self.now.kind c.args.self.now.r c.loop-c.c c.args.y (omega (arith, c.column_span-columns.ensures.end_inside)) c.requires.2 (sym c.is_listed.ensures ∙ w.if-is_listed.true) in
      rw (w.out-is, w.m-is) (
        omega (arith, c.column_span-columns.ensures.end_inside),
        w.put_dot.auto.out ∙ c.loop-c.invariant.1,
        count-dot-yes (page_frame c.args.self.now.page) c.args.self.now.kinds.now c.args.self.now.kind c.args.self.now.r c.loop-c.c c.args.y (omega (arith, c.column_span-columns.ensures.end_inside)) c.loop-c.m (sym c.is_listed.ensures ∙ w.if-is_listed.true) c.loop-c.invariant.2,
        λ s o. w.put_dot.ensures ∙ dots-yes (page_frame c.args.self.now.page) c.args.self.now.kinds.now c.args.self.now.kind c.args.self.now.r c.loop-c.c c.args.y (omega (arith, c.column_span-columns.ensures.end_inside)) c.loop-c.m s c.loop-c.out (sym c.is_listed.ensures ∙ w.if-is_listed.true) c.loop-c.invariant.2 (omega arith) (c.loop-c.invariant.3 s o),
      )
  | else-is_listed w ↦ rw (w.out-is, w.m-is) (omega (arith, c.column_span-columns.ensures.end_inside), c.loop-c.invariant.1, count-dot-no (page_frame c.args.self.now.page) c.args.self.now.kinds.now c.args.self.now.kind c.args.self.now.r c.loop-c.c c.args.y (omega (arith, c.column_span-columns.ensures.end_inside)) c.loop-c.m (sym c.is_listed.ensures ∙ w.if-is_listed.false) c.loop-c.invariant.2, λ s o. dots-no (page_frame c.args.self.now.page) c.args.self.now.kinds.now c.args.self.now.kind c.args.self.now.r c.loop-c.c c.args.y (omega (arith, c.column_span-columns.ensures.end_inside)) s c.loop-c.out (sym c.is_listed.ensures ∙ w.if-is_listed.false) (c.loop-c.invariant.3 s o))
]

pub returns : goal.returns
returns c = (count-gap (row-end c.args.self.now.kinds.now c.args.self.now.kind c.column_span-columns.ensures c.loop-c.c (omega arith) c.loop-c.invariant.0) c.loop-c.invariant.2, λ s o. dots-gap c.args.self.now.page.sides.page_w s c.loop-c.out (row-end c.args.self.now.kinds.now c.args.self.now.kind c.column_span-columns.ensures c.loop-c.c (omega arith) c.loop-c.invariant.0) (c.loop-c.invariant.3 s o))

use native.Mathlib.Omega.{arith}
use mathlib.Core.Path.{refl}
use lib.ListN.{get_or}
use Rattle.labelling.proofs.SpanLaws.{place-columns, place-ends, place-dots}
use Rattle.labelling.proofs.RowPaintLaws.{paints-then, paints-room, first-sum, first-asks, first-painted, next_here, next-sum, next-asks, next-painted}
use Rattle.labelling.proofs.span.NumberedRuns.paint_span.Goals as goal

pub paint_run-clear-requires : goal.paint_run-clear-requires
paint_run-clear-requires c = first-asks c.args.self.runs.now c.args.self.numbers.now c.requires.0 c.requires.1 _ _ refl refl

pub loop-last-init : goal.loop-last-init
loop-last-init c = ((λ n l₀ h T. T), c.paint_run-clear.ensures.cleared.upto, first-sum c.args.self.runs.now c.args.self.numbers.now c.requires.0 c.requires.1 _ _ refl refl c.column_sum-sum.result c.column_sum-sum.ensures)

pub paint_run-clear-requires-in-loop-last : goal.paint_run-clear-requires-in-loop-last
paint_run-clear-requires-in-loop-last c = next-asks c.args.self.runs.now c.args.self.numbers.now c.requires.0 c.requires.1 c.loop-last.invariant.2 (get_or c.args.self.numbers.now c.args.first 0) refl (c.goes_on.ensures c.loop-last-test.true) _ _ refl refl (paints-then (first-painted c.args.self.runs.now c.args.self.numbers.now c.requires.0 c.requires.1 _ _ refl refl c.paint_run-clear.new.labels c.paint_run-clear.ensures) c.loop-last.invariant.0) c.loop-last.invariant.1

pub overflow_sub-last-in-loop-last : goal.overflow_sub-last-in-loop-last
overflow_sub-last-in-loop-last c = let p = place-ends (next_here c.args.self.runs.now c.args.self.numbers.now c.requires.0 c.requires.1 c.loop-last.invariant.2 (get_or c.args.self.numbers.now c.args.first 0) refl (c.goes_on.ensures c.loop-last-test.true) _ _ refl refl) in omega arith

pub overflow_sub-last-in-loop-last-2 : goal.overflow_sub-last-in-loop-last-2
overflow_sub-last-in-loop-last-2 c = let p = place-ends (next_here c.args.self.runs.now c.args.self.numbers.now c.requires.0 c.requires.1 c.loop-last.invariant.2 (get_or c.args.self.numbers.now c.args.first 0) refl (c.goes_on.ensures c.loop-last-test.true) _ _ refl refl) in omega arith

pub overflow_sub-from : goal.overflow_sub-from
overflow_sub-from c = let p = place-ends (next_here c.args.self.runs.now c.args.self.numbers.now c.requires.0 c.requires.1 c.loop-last.invariant.2 (get_or c.args.self.numbers.now c.args.first 0) refl (c.goes_on.ensures c.loop-last-test.true) _ _ refl refl) in omega arith

pub overflow_sub-to : goal.overflow_sub-to
overflow_sub-to c = let p = place-ends (next_here c.args.self.runs.now c.args.self.numbers.now c.requires.0 c.requires.1 c.loop-last.invariant.2 (get_or c.args.self.numbers.now c.args.first 0) refl (c.goes_on.ensures c.loop-last-test.true) _ _ refl refl) in omega arith

pub column_sum-sum-requires-in-loop-last : goal.column_sum-sum-requires-in-loop-last
column_sum-sum-requires-in-loop-last c = let q = next_here c.args.self.runs.now c.args.self.numbers.now c.requires.0 c.requires.1 c.loop-last.invariant.2 (get_or c.args.self.numbers.now c.args.first 0) refl (c.goes_on.ensures c.loop-last-test.true) _ _ refl refl in let p = place-columns q in let r = paints-room c.args.self.runs.now c.args.self.numbers.now c.requires.0 c.requires.1 in (p.0, omega arith, place-dots q)

pub overflow_add-sum : goal.overflow_add-sum
overflow_add-sum c = let s = next-sum c.args.self.runs.now c.args.self.numbers.now c.requires.0 c.requires.1 c.loop-last.invariant.2 (get_or c.args.self.numbers.now c.args.first 0) refl (c.goes_on.ensures c.loop-last-test.true) _ _ refl refl c.column_sum-sum-in-loop-last.result c.column_sum-sum-in-loop-last.ensures in let f = s.few in let n = s.narrow in let l = s.light in let r = paints-room c.args.self.runs.now c.args.self.numbers.now c.requires.0 c.requires.1 in omega arith

pub overflow_sub-dots-in-loop-last : goal.overflow_sub-dots-in-loop-last
overflow_sub-dots-in-loop-last c = let p = place-ends (next_here c.args.self.runs.now c.args.self.numbers.now c.requires.0 c.requires.1 c.loop-last.invariant.2 (get_or c.args.self.numbers.now c.args.first 0) refl (c.goes_on.ensures c.loop-last-test.true) _ _ refl refl) in omega arith

pub loop-last-preserved : goal.loop-last-preserved
loop-last-preserved c = (next-painted c.args.self.runs.now c.args.self.numbers.now c.requires.0 c.requires.1 c.loop-last.invariant.2 (get_or c.args.self.numbers.now c.args.first 0) refl (c.goes_on.ensures c.loop-last-test.true) _ _ refl refl c.loop-last.invariant.0 c.paint_run-clear-in-loop-last.new.labels c.paint_run-clear-in-loop-last.ensures, c.paint_run-clear-in-loop-last.ensures.cleared.upto, next-sum c.args.self.runs.now c.args.self.numbers.now c.requires.0 c.requires.1 c.loop-last.invariant.2 (get_or c.args.self.numbers.now c.args.first 0) refl (c.goes_on.ensures c.loop-last-test.true) _ _ refl refl c.column_sum-sum-in-loop-last.result c.column_sum-sum-in-loop-last.ensures)

pub returns : goal.returns
returns c = record { painted = (paints-then (first-painted c.args.self.runs.now c.args.self.numbers.now c.requires.0 c.requires.1 _ _ refl refl c.paint_run-clear.new.labels c.paint_run-clear.ensures) c.loop-last.invariant.0); near = c.loop-last.invariant.1; span = c.loop-last.invariant.2 }

use native.Mathlib.Omega.{arith}
use mathlib.Core.Path.{refl}
use Rattle.labelling.proofs.SpanLaws.{place-ends, behind-goes, first-span, next_place, next-span}
use Rattle.labelling.proofs.span.measure_span.Goals as goal

pub loop-last-init : goal.loop-last-init
loop-last-init c = (_, first-span c.requires _ _ refl refl _ refl)

pub overflow_sub-last-in-loop-last : goal.overflow_sub-last-in-loop-last
overflow_sub-last-in-loop-last c = let p = place-ends (next_place c.requires c.loop-last.invariant.1 (_) refl (behind-goes c.args.c c.args.words.now _ _ _ (c.goes_on.ensures c.loop-last-test.true)) _ _ refl refl) in omega arith

pub overflow_sub-last-in-loop-last-2 : goal.overflow_sub-last-in-loop-last-2
overflow_sub-last-in-loop-last-2 c = let p = place-ends (next_place c.requires c.loop-last.invariant.1 (_) refl (behind-goes c.args.c c.args.words.now _ _ _ (c.goes_on.ensures c.loop-last-test.true)) _ _ refl refl) in omega arith

pub overflow_sub-dots-in-loop-last : goal.overflow_sub-dots-in-loop-last
overflow_sub-dots-in-loop-last c = let p = place-ends (next_place c.requires c.loop-last.invariant.1 (_) refl (behind-goes c.args.c c.args.words.now _ _ _ (c.goes_on.ensures c.loop-last-test.true)) _ _ refl refl) in omega arith

pub loop-last-preserved : goal.loop-last-preserved
loop-last-preserved c = (_, next-span c.requires c.loop-last.invariant.1 (_) refl (behind-goes c.args.c c.args.words.now _ _ _ (c.goes_on.ensures c.loop-last-test.true)) _ _ refl refl _ refl)

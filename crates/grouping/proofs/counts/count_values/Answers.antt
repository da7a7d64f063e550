use borrow.Rule.Slice.PartMut.{put_mid}
use mathlib.Core.List.{List}
use Prim.Native.Nat.{ℕ, ◌-◌}
use mathlib.Core.Path.{◌≡◌, ap, ◌∙◌}
use Rattle.memory.specs.rules.Lists.{table}
use Rattle.memory.specs.rules.Words.{over}
use Rattle.grouping.specs.stages.Counts.{counts}
use Rattle.grouping.proofs.TableWords.{front-filled, counts-done, values_none, value-more, value_fits}
use native.Mathlib.Omega.{arith}
use Rattle.grouping.proofs.counts.count_values.Goals as goal

pub loop-i-init : goal.loop-i-init
loop-i-init g c = λ f h. values_none f c.args.tally.now (put_mid 0 (c.args.m - 0) c.args.tally.now c.fill.new.dst) c.args.m (front-filled 0 c.args.m c.args.tally.now _ (omega arith) c.fill.ensures)

pub bounds-tally-value : goal.bounds-tally-value
bounds-tally-value g c = let r = c.requires.0 in let v = (r.1 c.loop-i.i (omega arith)).1 _ c.value.ensures in omega arith

pub bounds-tally-value-in-loop-i : goal.bounds-tally-value-in-loop-i
bounds-tally-value-in-loop-i g c = let r = c.requires.0 in let v = (r.1 c.loop-i.i (omega arith)).1 _ c.value.ensures in omega arith

pub overflow_add-tally : goal.overflow_add-tally
overflow_add-tally g c =
    let r = c.requires.0 in
    let v = (r.1 c.loop-i.i c.loop-i-test.true).1 _ c.value.ensures in
    omega (arith, value_fits r.0 _ c.loop-i.tally c.args.m c.loop-i.i c.value.result (c.loop-i.invariant r.0 (λ i w l p. ((r.1 i l).1 w p).0)) v.0 v.1)

pub loop-i-preserved : goal.loop-i-preserved
loop-i-preserved g c = λ f h.
    let v = (c.requires.0.1 c.loop-i.i c.loop-i-test.true).1 _ c.value.ensures in
    value-more f _ c.loop-i.tally c.args.m c.loop-i.i c.value.result (c.loop-i.invariant f h) (h c.loop-i.i c.value.result c.loop-i-test.true c.value.ensures) v.1

pub returns : goal.returns
returns g c = λ f h.
    let e : c.loop-i.i ≡ c.args.n = omega arith in
    let filled : List ℕ = put_mid 0 (c.args.m - 0) c.args.tally.now c.fill.new.dst in
    counts-done c.args.tally.now filled c.loop-i.tally _ c.args.m (front-filled 0 c.args.m c.args.tally.now _ (omega arith) c.fill.ensures)
    (c.loop-i.invariant f h ∙ ap (λ (k : ℕ). over (counts (table f k) c.args.m) filled) e)

use borrow.Rule.Slice.PartMut.{put_mid}
use Prim.Native.Nat.{ℕ, ◌+◌, ◌-◌}
use mathlib.Core.Path.{refl, sym, ap, ◌∙◌}
use mathlib.Core.List.{List}
use lib.ListN.{length}
use Rattle.memory.specs.rules.Words.{over}
use Rattle.grouping.specs.stages.Counts.{counts}
use Rattle.grouping.proofs.TableWords.{front-filled, counts_start, counts-done, counted-few}
use Rattle.grouping.proofs.GapLaws.{before-none, before-few, before-all, gaps-counted}
use native.Mathlib.Omega.{arith}
use Rattle.grouping.proofs.block.TextLines.count_gaps.Goals as goal

pub loop-i-init : goal.loop-i-init
loop-i-init c = let z = sym (before-none c.args.self.now.sheet.block_min_overlap c.args.cap c.args.self.now.h c.args.self.now.n c.args.self.now.words.now) in (refl, ap length z, counts_start c.args.table.now (put_mid 0 (c.args.self.now.h - 0) c.args.table.now c.fill.new.dst) c.args.self.now.h (front-filled 0 c.args.self.now.h c.args.table.now _ (omega arith) c.fill.ensures) ∙ ap (λ (l : List ℕ). over (counts l c.args.self.now.h) (put_mid 0 (c.args.self.now.h - 0) c.args.table.now c.fill.new.dst)) z)

pub count_below-found-requires : goal.count_below-found-requires
count_below-found-requires c = let f = before-few c.args.self.now.sheet.block_min_overlap c.args.cap c.args.self.now.h c.args.self.now.n c.args.self.now.words.now c.loop-i.i in (omega arith, λ k. let e = counted-few _ _ c.loop-i.table c.args.self.now.h c.nearest_gap-gap.result k c.loop-i.invariant.2 in omega arith)

pub overflow_add-found : goal.overflow_add-found
overflow_add-found c = let f = before-few c.args.self.now.sheet.block_min_overlap c.args.cap c.args.self.now.h c.args.self.now.n c.args.self.now.words.now (c.loop-i.i + 1) in let e = gaps-counted c.args.self.now.sheet.block_min_overlap c.args.cap c.args.self.now.h c.args.self.now.n c.args.self.now.words.now (put_mid 0 (c.args.self.now.h - 0) c.args.table.now c.fill.new.dst) c.loop-i.table c.count_below-found.new.table c.loop-i.found c.count_below-found.result c.loop-i.i c.nearest_gap-gap.result c.loop-i.invariant.1 c.loop-i.invariant.2 c.nearest_gap-gap.ensures c.count_below-found.ensures in omega (arith, e.0)

pub loop-i-preserved : goal.loop-i-preserved
loop-i-preserved c = let e = gaps-counted c.args.self.now.sheet.block_min_overlap c.args.cap c.args.self.now.h c.args.self.now.n c.args.self.now.words.now (put_mid 0 (c.args.self.now.h - 0) c.args.table.now c.fill.new.dst) c.loop-i.table c.count_below-found.new.table c.loop-i.found c.count_below-found.result c.loop-i.i c.nearest_gap-gap.result c.loop-i.invariant.1 c.loop-i.invariant.2 c.nearest_gap-gap.ensures c.count_below-found.ensures in (c.count_below-found.auto.table ∙ c.loop-i.invariant.0, e.0, e.1)

pub returns : goal.returns
returns c = let z = before-all c.args.self.now.sheet.block_min_overlap c.args.cap c.args.self.now.h c.args.self.now.n c.args.self.now.words.now c.requires.0.0 c.requires.0.1 c.loop-i.i (omega arith) in (c.loop-i.invariant.1 ∙ ap length z, counts-done c.args.table.now (put_mid 0 (c.args.self.now.h - 0) c.args.table.now c.fill.new.dst) c.loop-i.table _ c.args.self.now.h (front-filled 0 c.args.self.now.h c.args.table.now _ (omega arith) c.fill.ensures) c.loop-i.invariant.2 ∙ ap (λ (t : List ℕ). over (counts t c.args.self.now.h) c.args.table.now) z)

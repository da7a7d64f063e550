use Prim.Native.Nat.{◌+◌}
use mathlib.Core.Path.{sym, ap, ◌∙◌}
use Rattle.memory.specs.declared.rect.Rect.{Rect}
use Rattle.grouping.specs.stages.Joining.{least_with}
use Rattle.grouping.proofs.GapLaws.{gaps_from, walk-on, walk_end, walk-stop}
use native.Mathlib.Omega.{arith}
use Rattle.grouping.proofs.block.TextLines.nearest_gap.Goals as goal

pub returns-then-cap-gap : goal.returns-then-cap-gap
returns-then-cap-gap c = let far = rw (c.line_gap-gap.ensures, c.line_box-b.ensures) at c.if-cap-gap.true in
    sym (walk-stop c.args.self.now.sheet.block_min_overlap c.args.cap c.line_box-a.result c.args.self.now.words.now c.args.self.now.n c.loop-j.j c.loop-j.nearest c.requires.1 (omega arith) far)
    ∙ (sym c.loop-j.invariant ∙ ap (λ (r : Rect). least_with c.args.self.now.h (gaps_from c.args.self.now.sheet.block_min_overlap c.args.cap r c.args.self.now.words.now c.args.self.now.n (c.args.i + 1))) c.line_box-a.ensures)

pub loop-j-preserved : goal.loop-j-preserved
loop-j-preserved c =
    rw (c.nearer-nearest.ensures, c.line_gap-gap.ensures, c.line_box-b.ensures)
    (c.loop-j.invariant ∙ walk-on c.args.self.now.sheet.block_min_overlap c.args.cap c.line_box-a.result c.args.self.now.words.now c.args.self.now.n c.loop-j.j c.loop-j.nearest (omega arith) (rw (c.line_gap-gap.ensures, c.line_box-b.ensures) at c.if-cap-gap.false))

pub returns : goal.returns
returns c = sym (walk_end c.args.self.now.sheet.block_min_overlap c.args.cap c.line_box-a.result c.args.self.now.words.now c.args.self.now.n c.loop-j.j c.loop-j.nearest c.loop-j-test.false)
    ∙ (sym c.loop-j.invariant ∙ ap (λ (r : Rect). least_with c.args.self.now.h (gaps_from c.args.self.now.sheet.block_min_overlap c.args.cap r c.args.self.now.words.now c.args.self.now.n (c.args.i + 1))) c.line_box-a.ensures)

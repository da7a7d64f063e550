use Prim.Native.Nat.{◌+◌}
use mathlib.Core.Path.{refl, sym, ap, ◌∙◌, subst}
use Rattle.memory.specs.declared.rect.Rect.{Rect}
use Rattle.grouping.specs.stages.Joining.{joins}
use Rattle.memory.specs.stages.Boxes.{Inside}
use Rattle.grouping.specs.rules.HeldLines.{line_box}
use Rattle.grouping.proofs.GapLaws.{too_far, near, pair_fits}
use Rattle.grouping.proofs.PairLaws.{rooted-found, rooted-skip, rooted-join, rooted-stop}
use native.Mathlib.Omega.{arith}
use Rattle.grouping.proofs.block.TextLines.join_after.Goals as goal
use Rattle.grouping.proofs.block.TextLines.join_after.Goals.{else-overlaps, then-overlaps}

pub line_box-a-requires : goal.line_box-a-requires
line_box-a-requires c = omega (arith, c.requires.0.2.room)

pub find-root-requires : goal.find-root-requires
find-root-requires c = let J = c.requires.4 in (let q = J.room in omega arith, λ j l. J.forest.down j (omega arith))

pub loop-j-init : goal.loop-j-init
loop-j-init c = (refl, rooted-found (joins c.args.self.now.sheet.block_min_overlap c.args.limit c.args.self.now.words.now) c.args.self.now.n c.args.parents.now c.find-root.new.parents c.args.i (c.args.i + 1) c.find-root.result c.requires.3 c.requires.4 c.find-root.ensures)

pub line_box-b-requires : goal.line_box-b-requires
line_box-b-requires c = omega (arith, c.requires.0.2.room)

pub line_gap-requires : goal.line_gap-requires
line_gap-requires c = let e = ap (λ (x : Rect). x.y1) c.line_box-a.ensures in let k = (c.requires.0.2.boxes c.args.i c.requires.3).bottom in omega (arith, c.requires.0.4)

pub returns-then-limit-line_gap : goal.returns-then-limit-line_gap
returns-then-limit-line_gap c = let far = rw (c.line_gap.ensures, c.line_box-b.ensures, c.line_box-a.ensures) at c.if-limit-line_gap.true in
    rooted-stop (joins c.args.self.now.sheet.block_min_overlap c.args.limit c.args.self.now.words.now) c.args.self.now.n c.loop-j.parents c.loop-j.parents c.args.i c.loop-j.j c.loop-j.root c.loop-j.invariant.1
    (λ b l m. too_far c.args.self.now.sheet.block_min_overlap c.args.limit (line_box c.args.self.now.words.now c.args.i) (line_box c.args.self.now.words.now b) (let t = c.requires.1 c.loop-j.j b l m in omega arith))

pub overlaps-requires : goal.overlaps-requires
overlaps-requires c = let i = c.requires.0.2.boxes in pair_fits c.requires.0.0 c.requires.0.1 _ _ c.requires.0.3 (subst (Inside c.requires.0.0 c.requires.0.1) (sym c.line_box-a.ensures) (i c.args.i c.requires.3)) (subst (Inside c.requires.0.0 c.requires.0.1) (sym c.line_box-b.ensures) (i c.loop-j.j (omega arith)))

pub unite-root-requires : goal.unite-root-requires
unite-root-requires c = let R = c.loop-j.invariant.1 in let q = R.joined.room in let z = R.below in (omega arith, omega arith, omega arith, omega arith, λ k l. R.joined.forest.down k (omega arith))

pub loop-j-preserved : goal.loop-j-preserved
loop-j-preserved c = let Near-by = near c.args.self.now.sheet.block_min_overlap c.args.limit (line_box c.args.self.now.words.now c.args.i) (line_box c.args.self.now.words.now c.loop-j.j) (rw (c.line_gap.ensures, c.line_box-b.ensures, c.line_box-a.ensures) at c.if-limit-line_gap.false) in
    let o = rw (c.line_box-b.ensures, c.line_box-a.ensures) at c.overlaps.ensures in
    elim c.if-overlaps.branch [
      | then-overlaps w ↦ rw (w.parents-is, w.root-is) (w.unite-root.auto.parents ∙ c.loop-j.invariant.0, rooted-join (joins c.args.self.now.sheet.block_min_overlap c.args.limit c.args.self.now.words.now) c.args.self.now.n c.loop-j.parents w.unite-root.new.parents c.args.i c.loop-j.j c.loop-j.root w.unite-root.result c.loop-j.invariant.1 (omega arith) (omega arith) (Near-by ∙ (sym o ∙ w.if-overlaps.true)) w.unite-root.ensures)
      | else-overlaps w ↦ rw (w.parents-is, w.root-is) (c.loop-j.invariant.0, rooted-skip (joins c.args.self.now.sheet.block_min_overlap c.args.limit c.args.self.now.words.now) c.args.self.now.n c.loop-j.parents c.loop-j.parents c.args.i c.loop-j.j c.loop-j.root c.loop-j.invariant.1 (Near-by ∙ (sym o ∙ w.if-overlaps.false)))
    ]

pub returns : goal.returns
returns c = rooted-stop (joins c.args.self.now.sheet.block_min_overlap c.args.limit c.args.self.now.words.now) c.args.self.now.n c.loop-j.parents c.loop-j.parents c.args.i c.loop-j.j c.loop-j.root c.loop-j.invariant.1 (λ b l m. absurd (omega arith))

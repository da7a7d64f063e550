use mathlib.Core.Path.{◌≡◌, ap, ◌∙◌}
use native.Mathlib.Omega.{arith}
use Rattle.segmenting.specs.stages.Held.{held_area}
use Rattle.segmenting.proofs.BoxLaws.{area-none, area-more, area_same, area-fits}
use Rattle.segmenting.proofs.boxes.area_of_kind.Goals as goal
use Rattle.segmenting.proofs.boxes.area_of_kind.Goals.{else-words-kinds, then-words-kinds}

pub loop-k-init : goal.loop-k-init
loop-k-init c = area-none (c).args.words.now (c).args.kinds (c).args.kind (c).args.sizes

pub overflow_add-sum-then-words-kinds : goal.overflow_add-sum-then-words-kinds
overflow_add-sum-then-words-kinds c = let a = area-fits c.args.words.now c.args.kinds c.args.kind c.args.sizes c.loop-k.k c.args.count (omega arith) c.if-words-kinds.true in let p = c.requires.2 in let i = c.loop-k.invariant in omega arith

pub loop-k-preserved : goal.loop-k-preserved
loop-k-preserved c = elim c.if-words-kinds.branch [ then-words-kinds w ↦ let a = area-more c.args.words.now c.args.kinds c.args.kind c.args.sizes c.loop-k.k w.if-words-kinds.true in let i = c.loop-k.invariant in omega arith | else-words-kinds w ↦ let a = area_same c.args.words.now c.args.kinds c.args.kind c.args.sizes c.loop-k.k w.if-words-kinds.false in let i = c.loop-k.invariant in omega arith ]

pub returns : goal.returns
returns c = c.loop-k.invariant ∙ ap (held_area c.args.words.now c.args.sizes c.args.kinds c.args.kind) (let e : c.loop-k.k ≡ c.args.count = omega arith in e)

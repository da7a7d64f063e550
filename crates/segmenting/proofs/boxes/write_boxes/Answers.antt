use Prim.Native.Nat.{◌+◌}
use mathlib.Core.Path.{◌≡◌, sym, ap, ◌∙◌, subst}
use native.Mathlib.Omega.{arith}
use lib.ListN.{length}
use Rattle.memory.specs.rules.Words.{over}
use Rattle.memory.specs.rules.Records.{encoded}
use Rattle.memory.specs.rules.Rects.{box_words}
use Rattle.sorting.specs.stages.Measures.{size_box}
use Rattle.segmenting.specs.stages.Held.{held_boxes}
use Rattle.segmenting.proofs.BoxLaws.{BoxesWritten, written-length, box-more, boxes-none, boxes-more, boxes-same, boxes-below}
use Rattle.segmenting.proofs.boxes.write_boxes.Goals as goal
use Rattle.segmenting.proofs.boxes.write_boxes.Goals.{else-words-kinds, then-words-kinds}

pub loop-k-init : goal.loop-k-init
loop-k-init c = boxes-none c.args.words.now c.args.kinds c.args.kind c.args.sizes c.args.out.now

pub put_box-requires : goal.put_box-requires
put_box-requires c = let a = boxes-below c.args.words.now c.args.kinds c.args.kind c.args.sizes c.loop-k.k c.args.count (omega arith) c.if-words-kinds.true in let n = c.loop-k.invariant.count in let p = c.requires.2 in let b = written-length c.loop-k.invariant in omega arith

pub overflow_add-n : goal.overflow_add-n
overflow_add-n c = let a = boxes-below c.args.words.now c.args.kinds c.args.kind c.args.sizes c.loop-k.k c.args.count (omega arith) c.if-words-kinds.true in let n = c.loop-k.invariant.count in let p = c.requires.2 in omega arith

pub loop-k-preserved : goal.loop-k-preserved
loop-k-preserved c = elim c.if-words-kinds.branch [ then-words-kinds w ↦ rw (w.out-is, w.n-is) (subst (λ z. BoxesWritten z c.args.out.now w.put_box.new.words (c.loop-k.n + 1)) (sym (boxes-more c.args.words.now c.args.kinds c.args.kind c.args.sizes c.loop-k.k w.if-words-kinds.true)) (box-more c.loop-k.invariant (size_box c.args.words.now c.args.sizes c.loop-k.k) w.size_box.result w.put_box.new.words (let a = boxes-below c.args.words.now c.args.kinds c.args.kind c.args.sizes c.loop-k.k c.args.count (omega arith) w.if-words-kinds.true in let n = c.loop-k.invariant.count in let p = c.requires.2 in omega arith) w.size_box.ensures w.put_box.ensures)) | else-words-kinds w ↦ rw (w.out-is, w.n-is) (subst (λ z. BoxesWritten z c.args.out.now c.loop-k.out c.loop-k.n) (sym (boxes-same c.args.words.now c.args.kinds c.args.kind c.args.sizes c.loop-k.k w.if-words-kinds.false)) c.loop-k.invariant) ]

pub returns : goal.returns
returns c = (c.loop-k.invariant.count ∙ ap (λ z. length (held_boxes c.args.words.now c.args.sizes c.args.kinds c.args.kind z)) (let e : c.loop-k.k ≡ c.args.count = omega arith in e), c.loop-k.invariant.list ∙ ap (λ z. over (encoded box_words (held_boxes c.args.words.now c.args.sizes c.args.kinds c.args.kind z)) c.args.out.now) (let e : c.loop-k.k ≡ c.args.count = omega arith in e))

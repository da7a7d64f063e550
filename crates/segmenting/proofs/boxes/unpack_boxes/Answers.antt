use Prim.Native.Nat.{◌+◌, ◌*◌}
use mathlib.Core.Path.{◌≡◌, sym, ap, ◌∙◌, subst}
use native.Mathlib.Omega.{arith}
use lib.ListN.{get_or}
use Rattle.memory.specs.rules.Words.{over}
use Rattle.memory.specs.rules.Records.{encoded}
use Rattle.memory.specs.rules.Rects.{box_words}
use Rattle.sorting.specs.stages.Measures.{unpacked}
use Rattle.segmenting.specs.stages.Held.{unpacked_boxes}
use Rattle.segmenting.proofs.BoxLaws.{BoxesWritten, written-length, box-more, unpacked-none, unpacked-more}
use Rattle.segmenting.proofs.boxes.unpack_boxes.Goals as goal

pub loop-k-init : goal.loop-k-init
loop-k-init c = unpacked-none c.args.words.now c.args.from c.args.out.now

pub put_box-requires : goal.put_box-requires
put_box-requires c = let b = written-length c.loop-k.invariant in omega arith

pub loop-k-preserved : goal.loop-k-preserved
loop-k-preserved c = subst (λ z. BoxesWritten z c.args.out.now c.put_box.new.words (c.loop-k.k + 1)) (sym (unpacked-more c.args.words.now c.args.from c.loop-k.k)) (box-more c.loop-k.invariant (unpacked (get_or c.args.words.now (c.args.from + 2 * c.loop-k.k) 0) (get_or c.args.words.now (c.args.from + 2 * c.loop-k.k + 1) 0)) c.packed_box.result c.put_box.new.words (omega arith) c.packed_box.ensures c.put_box.ensures)

pub returns : goal.returns
returns c = c.loop-k.invariant.list ∙ ap (λ z. over (encoded box_words (unpacked_boxes c.args.words.now c.args.from z)) c.args.out.now) (let e : c.loop-k.k ≡ c.args.count = omega arith in e)

use Rattle.segmenting.proofs.PaintingLaws.{kinds-none, kinds-ask, kinds-more, kinds-done}
use Rattle.segmenting.proofs.painting.paint_kinds.Goals as goal

pub loop-k-init : goal.loop-k-init
loop-k-init c = kinds-none c.args.ink.now c.args.words.now c.args.runs c.args.kinds c.args.out.now

pub paint_run-done-requires : goal.paint_run-done-requires
paint_run-done-requires c = kinds-ask c.requires.3 c.loop-k.invariant c.loop-k-test.true

pub loop-k-preserved : goal.loop-k-preserved
loop-k-preserved c = kinds-more c.requires.3 c.loop-k.invariant c.loop-k-test.true c.paint_run-done.new.out c.paint_run-done.result c.paint_run-done.ensures

pub returns : goal.returns
returns c = λ w h m A. kinds-done A c.loop-k.invariant c.loop-k-test.false c.copy_over.new.dst c.copy_over.ensures

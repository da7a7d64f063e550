use mathlib.Core.Path.{◌∙◌}
use native.Mathlib.Omega.{arith}
use mathlib.Core.Path.{refl}
use Prim.Native.Nat.{◌*◌}
use native.Mathlib.Nat.{le_trans}
use lib.ListN.{drop}
use Rattle.memory.proofs.PartLaws.{tail-part}
use Rattle.memory.proofs.StoredLaws.{stored-filled}
use Rattle.labelling.proofs.PaintLaws.{filled}
use Rattle.labelling.proofs.RowPaintLaws.{plane-none, plane-fits, plane-ahead, plane-more, plane-on, plane-done}
use Rattle.labelling.proofs.paint.paint_runs.Goals as goal

pub loop-reached-init : goal.loop-reached-init
loop-reached-init c = plane-none c.requires.2 c.requires.3

pub paint_row-reached-requires : goal.paint_row-reached-requires
paint_row-reached-requires c = (le_trans c.requires.0 c.requires.1, rw (tail-part c.args.numbers c.args.words.now) (plane-ahead c.args.words.now (drop c.args.numbers c.args.words.now) (le_trans c.requires.0 c.requires.1) c.loop-reached.invariant c.loop-reached-test.true _ _ refl refl))

pub loop-reached-smaller : goal.loop-reached-smaller
loop-reached-smaller c = let p = plane-on c.args.words.now (drop c.args.numbers c.args.words.now) (le_trans c.requires.0 c.requires.1) c.loop-reached.invariant c.loop-reached-test.true _ _ refl refl (rw (tail-part c.args.numbers c.args.words.now) at c.paint_row-reached.ensures) in omega (arith, c.loop-reached-test.true)

pub loop-reached-preserved : goal.loop-reached-preserved
loop-reached-preserved c = plane-more c.args.words.now (drop c.args.numbers c.args.words.now) (le_trans c.requires.0 c.requires.1) c.loop-reached.invariant c.loop-reached-test.true _ _ refl refl (rw (tail-part c.args.numbers c.args.words.now) at c.paint_row-reached.ensures)

pub returns : goal.returns
returns c =
    let f = plane-fits c.args.words.now (drop c.args.numbers c.args.words.now) (le_trans c.requires.0 c.requires.1) c.loop-reached.invariant in
    let t = stored-filled 0 c.loop-reached.reached.clear (c.args.w * c.args.h) c.loop-reached.labels c.fill.new.self f.0 f.2 (c.fill.ensures.after (λ y h. h) ∙ filled _ _) in
    plane-done c.args.words.now (drop c.args.numbers c.args.words.now) (le_trans c.requires.0 c.requires.1) c.loop-reached.invariant c.loop-reached-test.false _ t

use mathlib.Core.Path.{◌∙◌}
use Rattle.labelling.proofs.PaintLaws.{filled}
use native.Mathlib.Omega.{arith}
use Rattle.memory.proofs.StoredLaws.{stored-filled}
use Rattle.labelling.proofs.paint.clear_to.Goals as goal

pub returns : goal.returns
returns c =
    let a = c.args in
    let p = c.requires in
    let e = c.min-to.ensures in
    let l = c.if-end-clear.false in
    record { from = omega arith; reach = omega arith; upto = omega arith; filled = stored-filled 0 a.clear c.min-to.result a.labels.now c.fill.new.self (omega arith) (omega arith) (c.fill.ensures.after (λ y h. h) ∙ filled _ _) }

use mathlib.Core.Path.{◌∙◌}
use native.Mathlib.Omega.{arith}
use Rattle.labelling.proofs.PaintLaws.{filled, stored-first}
use Rattle.labelling.proofs.paint.paint_run.Goals as goal

pub returns : goal.returns
returns c =
    let a = c.args in
    let p = c.requires in
    let k = c.clear_to-clear.ensures.filled.within.len in
    let f = stored-first a.label a.start a.end c.clear_to-clear.new.labels c.fill.new.self p.0 (omega arith) (c.fill.ensures.after (λ y h. h) ∙ filled _ _) in
    record { between = c.clear_to-clear.new.labels; cleared = c.clear_to-clear.ensures; filled = f }

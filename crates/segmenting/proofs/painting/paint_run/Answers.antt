use Rattle.std.proofs.Common.{◌+◌, ◌-◌, ◌*◌, refl, get_or}
use Rattle.segmenting.specs.stages.Held.{held_kind}
use Rattle.segmenting.proofs.PaintingLaws.{run-painted}
use Rattle.segmenting.proofs.painting.paint_run.Goals as goal

pub returns : goal.returns
returns c =
    let w = c.args.words.now in
    let k = c.args.k in
    run-painted c.requires (get_or w (2 * k) 0) (get_or w (2 * k + 1) 0) (held_kind w c.args.kinds (get_or w (2 * c.args.runs + k) 0 - 1)) refl refl refl
    c.copy_over.new.dst c.fill.new.self c.copy_over.ensures (c.fill.ensures.after (λ y h. h))

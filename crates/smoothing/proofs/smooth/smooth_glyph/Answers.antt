use mathlib.Core.Path.{refl}
use Rattle.smoothing.proofs.PageWalkLaws.{add-fits, joined-some, mark-fits, glyph-pass}
use Rattle.smoothing.proofs.smooth.smooth_glyph.Goals as goal

pub add_run-smoothed-requires : goal.add_run-smoothed-requires
add_run-smoothed-requires c = let p = c.requires in (add-fits p.2 p.3, joined-some p.2 p.3 c.joins_last-joins.result c.joins_last-joins.ensures)

pub mark_first-requires : goal.mark_first-requires
mark_first-requires c = let p = c.requires in mark-fits p.2 p.3 c.joins_last-joins.ensures c.add_run-smoothed.ensures

pub returns : goal.returns
returns c = (refl, λ g y W A. glyph-pass W A c.joins_last-joins.ensures c.add_run-smoothed.ensures c.max.result c.args.run.end refl c.max.ensures c.mark_first.ensures)

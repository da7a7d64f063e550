use mathlib.Core.Path.{refl}
use Rattle.smoothing.proofs.PageWalkLaws.{row-parts, run_room, other-pass, glyph-at}
use Rattle.smoothing.proofs.smooth.smooth_run.Goals as goal

pub glyph_run-run-requires : goal.glyph_run-run-requires
glyph_run-run-requires c = let p = c.requires in (row-parts p.2 p.3, run_room p.2 p.3 p.4 p.5)

pub smooth_glyph-requires : goal.smooth_glyph-requires
smooth_glyph-requires c = let p = c.requires in let run = c.in-Some.ensures in (p.0, p.1, p.2, glyph-at p.2 p.3 p.4 p.5 run.1 run.0)

pub returns-in-Some : goal.returns-in-Some
returns-in-Some c = let p = c.requires in let run = c.in-Some.ensures in (c.smooth_glyph.ensures.0, λ g y W R. c.smooth_glyph.ensures.1 g y W (glyph-at W R p.4 p.5 run.1 run.0))

pub returns-in-None : goal.returns-in-None
returns-in-None c = let p = c.requires in (refl, λ g y W R. other-pass W R p.4 p.5 c.in-None.ensures)

use mathlib.Core.Path.{refl}
use lib.ListN.{drop}
use Rattle.rulings.proofs.ColumnLaws.{risen-short}
use Rattle.rulings.proofs.plane.Rulings.mark_strips.Goals as goal

pub returns-then-not-any_long_run : goal.returns-then-not-any_long_run
returns-then-not-any_long_run c =
    let a = c.args in
    (c.chunk_end-b.ensures.0, c.chunk_end-b.ensures.1, risen-short a.self.plane.sweep a.self.plane.ink.now a.self.run_min a.self.thick_max a.a _ (drop a.self.marks a.words.now) (c.any_long_run.ensures c.if-not-any_long_run.true), λ e. refl)

use mathlib.Core.Path.{sym, ◌∙◌}
use mathlib.Core.Bool.{◌||◌}
use Rattle.rulings.proofs.SweepLaws.{widened-scanlines}
use Rattle.rulings.proofs.plane.Plane.is_widened.Goals as goal

pub returns : goal.returns
returns c =
    let a = c.args in
    (λ k. c.is_ink.ensures k || c.is_ink-2.ensures k || c.is_ink-3.ensures k)
    ∙ sym (widened-scanlines a.self.sweep a.self.ink.now a.i a.o c.scanline_before-before.result c.scanline_after-after.result c.scanline_before-before.ensures c.scanline_after-after.ensures.1 c.scanline_after-after.ensures.2)

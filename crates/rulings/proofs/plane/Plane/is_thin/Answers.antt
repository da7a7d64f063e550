use mathlib.Core.Bool.{not}
use mathlib.Core.Path.{ap}
use mathlib.Core.Path.{sym}
use mathlib.Core.Bool.{false, true}
use Rattle.rulings.specs.stages.Sweeps.{plane_of}
use Rattle.rulings.proofs.SweepLaws.{test-off, test_on}
use Rattle.rulings.proofs.ColumnLaws.{thick-before, thin-after, thin-always, thin-blank, thin-ink}
use Rattle.rulings.proofs.plane.Plane.is_thin.Goals as goal

pub returns-then-not-is_ink : goal.returns-then-not-is_ink
returns-then-not-is_ink c = let a = c.args in thin-blank a.self.sweep a.self.ink.now a.thick_max a.i a.o (test-off _ _ c.is_ink.ensures (ap not c.if-not-is_ink.true))

pub returns-then-thick_max-ge-MAX_EXTENT : goal.returns-then-thick_max-ge-MAX_EXTENT
returns-then-thick_max-ge-MAX_EXTENT c =
    let a = c.args in
    thin-ink a.self.sweep a.self.ink.now a.thick_max a.i a.o true (test_on _ _ c.is_ink.ensures (ap not c.if-not-is_ink.false)) (thin-always a.self.sweep a.self.ink.now a.thick_max a.i a.o c.if-thick_max-ge-MAX_EXTENT.true)

pub returns-then-most-before : goal.returns-then-most-before
returns-then-most-before c =
    let a = c.args in
    let on = test_on _ _ c.is_ink.ensures (ap not c.if-not-is_ink.false) in
    thin-ink a.self.sweep a.self.ink.now a.thick_max a.i a.o false on
    (sym (thick-before (plane_of a.self.sweep a.self.ink.now a.i) a.self.sweep.outer a.o a.thick_max c.ink_before-before.result c.requires.1 on c.if-thick_max-ge-MAX_EXTENT.false c.ink_before-before.ensures c.if-most-before.true))

pub returns : goal.returns
returns c =
    let a = c.args in
    let on = test_on _ _ c.is_ink.ensures (ap not c.if-not-is_ink.false) in
    thin-ink a.self.sweep a.self.ink.now a.thick_max a.i a.o _ on
    (thin-after (plane_of a.self.sweep a.self.ink.now a.i) a.self.sweep.outer a.o a.thick_max c.ink_before-before.result c.requires.1 on c.ink_after.result c.if-thick_max-ge-MAX_EXTENT.false c.ink_before-before.ensures c.if-most-before.false c.ink_after.ensures)

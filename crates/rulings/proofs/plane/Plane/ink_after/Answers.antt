use mathlib.Core.Bool.{not}
use mathlib.Core.Path.{◌≡◌, ◌∙◌, ap}
use Prim.Native.Nat.{◌-◌}
use native.Mathlib.Omega.{arith}
use Rattle.rulings.specs.stages.Sweeps.{plane_of}
use Rattle.rulings.proofs.SweepLaws.{test-off, test_on}
use Rattle.rulings.proofs.ColumnLaws.{ahead-blank, ahead-ended, ahead_step}
use Rattle.rulings.proofs.plane.Plane.ink_after.Goals as goal

pub returns-then-not-is_ink : goal.returns-then-not-is_ink
returns-then-not-is_ink c =
    let a = c.args in
    let e = c.min-end.ensures in
    ahead-blank (plane_of a.self.sweep a.self.ink.now a.i) a.o (a.self.sweep.outer - a.o) c.loop-n.n a.most (omega arith) (test-off _ _ c.is_ink.ensures (ap not c.if-not-is_ink.true)) c.loop-n.invariant

pub loop-n-preserved : goal.loop-n-preserved
loop-n-preserved c =
    let a = c.args in
    let e = c.min-end.ensures in
    ahead_step (plane_of a.self.sweep a.self.ink.now a.i) a.o (a.self.sweep.outer - a.o) c.loop-n.n (omega arith) (test_on _ _ c.is_ink.ensures (ap not c.if-not-is_ink.false)) c.loop-n.invariant

pub returns : goal.returns
returns c =
    let a = c.args in
    let e : c.min-end.result ≡ c.loop-n.n = omega arith in
    e ∙ ahead-ended (plane_of a.self.sweep a.self.ink.now a.i) a.o (a.self.sweep.outer - a.o) c.loop-n.n a.most (omega arith) (omega arith) (λ x y. absurd (omega arith)) c.loop-n.invariant

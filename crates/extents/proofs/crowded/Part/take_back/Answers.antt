use mathlib.Core.Path.{subst, ◌≡◌}
use Rattle.extents.proofs.CrowdedLaws.{parts-less, parts-second, back_at}
use Prim.Native.Nat.{suc, ◌+◌, ◌-◌}
use Rattle.memory.specs.rules.Masks.{is_ink}
use Rattle.extents.specs.rules.Extents.{behind}
use Rattle.extents.specs.stages.Scans.{RowCounted}
use native.Mathlib.Omega.{arith}
use Rattle.extents.proofs.crowded.Part.take_back.Goals as goal

pub loop-i-preserved : goal.loop-i-preserved
loop-i-preserved c = (omega arith, parts-less (subst (λ z. RowCounted c.args.self.row.now c.args.self.x z c.args.self.to c.loop-i.extents) (let z : c.loop-i.i ≡ c.loop-i.i - 1 + 1 = omega arith in z) c.loop-i.invariant.1) (omega arith) (let h = c.requires.0.inside in omega arith) (omega arith) c.taken-later.result (back_at c.args.self.row.now c.args.self.x c.loop-i.i c.args.self.to c.loop-i.extents c.requires.0 c.requires.2 c.loop-i.invariant.1 c.loop-i-test.true (omega arith) c.loop-i.later c.taken-later.result c.loop-i.invariant.2 c.taken-later.ensures), λ _. back_at c.args.self.row.now c.args.self.x c.loop-i.i c.args.self.to c.loop-i.extents c.requires.0 c.requires.2 c.loop-i.invariant.1 c.loop-i-test.true (omega arith) c.loop-i.later c.taken-later.result c.loop-i.invariant.2 c.taken-later.ensures)

pub returns : goal.returns
returns c = parts-second c.args.self.row.now c.args.self.x c.loop-i.i c.args.self.to (λ k. behind (is_ink c.args.self.row.now) (suc k)) c.loop-i.extents c.loop-i.invariant.1 c.loop-i-test.false c.loop-i.invariant.0 c.requires.0

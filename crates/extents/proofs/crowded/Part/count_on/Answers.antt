use mathlib.Core.Path.{sym, ap, ◌∙◌, ◌≡◌}
use Rattle.extents.proofs.RunLaws.{starts-run}
use Rattle.extents.proofs.CrowdedLaws.{parts_none, parts_more, count_at, count_small}
use Prim.Native.Nat.{suc, ◌+◌}
use Rattle.memory.specs.rules.Masks.{is_ink}
use Rattle.extents.specs.rules.Extents.{behind}
use native.Mathlib.Omega.{arith}
use Rattle.extents.proofs.crowded.Part.count_on.Goals as goal

pub loop-i-init : goal.loop-i-init
loop-i-init c = (omega arith, parts_none c.requires.1 c.args.self.to (λ k. behind (is_ink c.args.self.row.now) (suc k)) c.requires.0.order (let h = c.requires.0.inside in omega arith), λ e. sym (starts-run (is_ink c.args.self.row.now) c.args.self.x c.requires.0.from e))

pub loop-i-preserved : goal.loop-i-preserved
loop-i-preserved c = (count_small c.args.self.row.now c.loop-i.i c.loop-i.count c.args.self.x c.one_more-count.result (omega arith) c.loop-i.invariant.0 c.one_more-count.ensures, parts_more c.loop-i.invariant.1 (omega arith) c.loop-i-test.true (let h = c.requires.0.inside in omega arith) c.one_more-count.result (count_at c.args.self.row.now c.loop-i.i c.loop-i.count c.one_more-count.result c.loop-i.invariant.2 c.one_more-count.ensures), λ _. count_at c.args.self.row.now c.loop-i.i c.loop-i.count c.one_more-count.result c.loop-i.invariant.2 c.one_more-count.ensures ∙ ap (behind (is_ink c.args.self.row.now)) (let z : suc c.loop-i.i ≡ c.loop-i.i + 1 = omega arith in z))

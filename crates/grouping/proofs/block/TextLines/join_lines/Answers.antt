use Prim.Native.Nat.{◌+◌}
use mathlib.Core.Path.{refl}
use Rattle.grouping.specs.stages.Joining.{joins}
use Rattle.grouping.proofs.PairLaws.{joined-none, joined-all}
use native.Mathlib.Omega.{arith}
use Rattle.grouping.proofs.block.TextLines.join_lines.Goals as goal

pub loop-i-init : goal.loop-i-init
loop-i-init c = (refl, joined-none (joins c.args.self.now.sheet.block_min_overlap c.args.limit c.args.self.now.words.now) c.args.self.now.n c.own_parents.new.parents c.args.parents.now c.requires.3 c.own_parents.ensures)

pub returns : goal.returns
returns c = joined-all (joins c.args.self.now.sheet.block_min_overlap c.args.limit c.args.self.now.words.now) c.args.self.now.n c.loop-i.parents c.loop-i.i (c.loop-i.i + 1) (omega arith) c.loop-i.invariant.1

use native.Mathlib.Omega.{arith}
use Prim.Native.Nat.{◌-◌, ◌*◌}
use lib.ListN.{get_or}
use Rattle.labelling.proofs.RunLinkLaws.{one_end, start-high, end-high, one-alone, one-joinable, one-linked}
use Rattle.labelling.proofs.link.RunTable.link_one.Goals as goal

pub returns-then-to-i : goal.returns-then-to-i
returns-then-to-i c = one-alone c.requires c.if-to-i.true

pub overflow_sub-start : goal.overflow_sub-start
overflow_sub-start c = omega (arith, start-high c.requires c.if-to-i.false)

pub overflow_sub-end : goal.overflow_sub-end
overflow_sub-end c = omega (arith, end-high c.requires c.if-to-i.false)

pub parent_of-parent-requires : goal.parent_of-parent-requires
parent_of-parent-requires c = (one-joinable c.requires c.skip_left-first.result (get_or c.args.words.now (2 * c.args.j) 0 - c.args.self.w) c.skip_left-first.ensures (omega (arith, start-high c.requires c.if-to-i.false)), omega (arith, end-high c.requires c.if-to-i.false, one_end c.requires))

pub returns : goal.returns
returns c = one-linked c.requires c.skip_left-first.result (get_or c.args.words.now (2 * c.args.j) 0 - c.args.self.w) c.skip_left-first.ensures (omega (arith, start-high c.requires c.if-to-i.false)) c.parent_of-parent.new.words c.parent_of-parent.result c.parent_of-parent.ensures

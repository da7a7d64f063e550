use native.Mathlib.Omega.{arith}
use Rattle.labelling.proofs.RunLinkLaws.{walk_none, walk_start, walk-linkable, walk_more}
use Rattle.labelling.proofs.link.RunTable.link_row.Goals as goal

pub loop-j-init : goal.loop-j-init
loop-j-init c = walk_none c.requires

pub link_one-i-requires : goal.link_one-i-requires
link_one-i-requires c = walk-linkable c.loop-j.invariant c.loop-j-test.true (omega (arith, c.if-limit-words.false, walk_start c.loop-j.invariant c.loop-j-test.true))

pub loop-j-preserved : goal.loop-j-preserved
loop-j-preserved c = walk_more c.loop-j.invariant c.loop-j-test.true (omega (arith, c.if-limit-words.false, walk_start c.loop-j.invariant c.loop-j-test.true)) c.link_one-i.new.words c.link_one-i.result c.link_one-i.ensures

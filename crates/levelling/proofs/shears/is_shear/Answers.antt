use mathlib.Core.Path.{sym, ◌∙◌}
use native.Mathlib.Omega.{arith}
use Rattle.levelling.proofs.ShearTests.{shear-same, shear-other}
use Rattle.levelling.proofs.shears.is_shear.Goals as goal

-- `levelling::shears::is_shear` meets its contract: the words so far are the entries. Assumes nothing.

pub returns-then-words-c : goal.returns-then-words-c
returns-then-words-c c =
    shear-other c.new-shear.result c.args.which c.args.slope c.args.n c.requires.slope c.requires.count.0 c.requires.count.1 c.new-shear.ensures c.args.words.now c.requires.count.2
    c.loop-c.c (omega arith) (λ q. c.if-words-c.true (q ∙ sym c.entry.ensures))

pub returns : goal.returns
returns c =
    shear-same c.new-shear.result c.args.which c.args.slope c.args.n c.requires.slope c.requires.count.0 c.requires.count.1 c.new-shear.ensures c.args.words.now c.requires.count.2
    (λ i l. c.loop-c.invariant i (omega arith))

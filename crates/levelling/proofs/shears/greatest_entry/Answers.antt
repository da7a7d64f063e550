use mathlib.Core.Path.{◌∙◌}
use Prim.Native.Nat.{max}
use Rattle.levelling.proofs.ShearTests.{ends-greatest}
use Rattle.levelling.proofs.shears.greatest_entry.Goals as goal

pub returns : goal.returns
returns c =
    c.max.ensures
    ∙ (λ i. max (c.entry.ensures i) (c.entry-2.ensures i))
    ∙ ends-greatest c.new-shear.result c.args.which c.args.slope c.args.n c.requires.slope c.requires.count.0 c.requires.count.1 c.new-shear.ensures

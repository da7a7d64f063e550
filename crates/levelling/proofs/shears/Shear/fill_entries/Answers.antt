use mathlib.Core.Path.{sym, ◌∙◌}
use Prim.Native.Nat.{◌+◌, ◌-◌}
use native.Mathlib.Omega.{arith}
use lib.ListN.{length}
use Rattle.memory.proofs.TableLaws.{table-ext}
use Rattle.levelling.proofs.ShearTests.{entries-level}
use Rattle.levelling.proofs.shears.Shear.fill_entries.Goals as goal

pub returns-then-first-entry : goal.returns-then-first-entry
returns-then-first-entry c =
    let s = c.args.self in
    let n = length c.args.out.now in
    c.fill.ensures
    ∙ table-ext (λ _. c.entry-first.result) _ n
    (λ i l.
    c.entry-first.ensures
    ∙ entries-level s.which s.slope (c.args.c + n) s.least c.requires.least c.args.c (c.args.c + i) (c.args.c + (n - 1)) (omega arith) (omega arith) (omega (arith, c.requires.count))
    (sym c.entry-first.ensures ∙ c.if-first-entry.true ∙ c.entry.ensures))

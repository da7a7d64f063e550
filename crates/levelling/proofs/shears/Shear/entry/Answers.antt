use mathlib.Core.Path.{◌≡◌, ◌∙◌, ap}
use Prim.Native.Nat.{ℕ, ◌+◌, ◌<◌}
use native.Mathlib.Omega.{arith}
use borrow.Author.Rules.{rules}
use lib.IntN.{ℤ, pos, nat_abs, ◌-ℤ◌}
use mir.Syntax.{w64}
use mir.Val.{to_z, of_z}
use Rattle.levelling.specs.declared.shears.Shear.{Shear}
use Rattle.levelling.specs.rules.Shears.{drift_of}
use Rattle.levelling.specs.stages.Entries.{LeastOf, entry_of}
use Rattle.levelling.proofs.Integers.{natural-fits, natural-kept, natural_casts}
use Rattle.levelling.proofs.ShearTests.{entry-is, entry-small}
use Rattle.levelling.proofs.shears.Shear.entry.Goals as goal

-- what the code takes away is the entry
difference : (s : Shear) (i : ℕ) (d least : ℤ) → LeastOf s.which s.slope (i + 1) s.least → d ≡ drift_of s.which s.slope i → least ≡ s.least → d -ℤ least ≡ pos (entry_of s.which s.slope s.least i)
difference s i d least L e q = (λ k. e k -ℤ q k) ∙ entry-is s.which s.slope (i + 1) s.least L i (omega arith)

small : (s : Shear) (i : ℕ) → LeastOf s.which s.slope (i + 1) s.least → entry_of s.which s.slope s.least i < 2147483648
small s i L = omega (arith, entry-small s.which s.slope (i + 1) s.least L i (omega arith))

pub overflow_sub-result : goal.overflow_sub-result
overflow_sub-result c =
    let drift : to_z w64 (of_z w64 c.drift_of.result) ≡ drift_of c.args.self.which c.args.self.slope c.args.i = search rules in
    let least : to_z w64 (of_z w64 c.args.self.least) ≡ c.args.self.least = search rules in
    natural-fits (difference c.args.self c.args.i _ _ c.requires drift least) (small c.args.self c.args.i c.requires)

pub overflow_cast-result : goal.overflow_cast-result
overflow_cast-result c =
    let drift : to_z w64 (of_z w64 c.drift_of.result) ≡ drift_of c.args.self.which c.args.self.slope c.args.i = search rules in
    let least : to_z w64 (of_z w64 c.args.self.least) ≡ c.args.self.least = search rules in
    natural_casts (difference c.args.self c.args.i _ _ c.requires drift least) (small c.args.self c.args.i c.requires)

pub returns : goal.returns
returns c =
    let drift : to_z w64 (of_z w64 c.drift_of.result) ≡ drift_of c.args.self.which c.args.self.slope c.args.i = search rules in
    let least : to_z w64 (of_z w64 c.args.self.least) ≡ c.args.self.least = search rules in
    ap nat_abs (natural-kept (difference c.args.self c.args.i _ _ c.requires drift least) (small c.args.self c.args.i c.requires))

use Rattle.std.proofs.Common.{◌≡◌, Bool, true, false, cond, sym, ap, ◌∙◌}
use lib.Ieee.{Float, le}
use Rattle.std.specs.Float.{float_with_sign}
use Rattle.rounding.specs.rules.Rounding.{positive_zero}
use Rattle.params.specs.declared.LayoutParams.{LayoutParams}
use Rattle.levelling.specs.rules.Shears.{applied}
use Rattle.levelling.proofs.SlopeLaws.{magnitude-is}
use Rattle.levelling.proofs.shears.applied.Goals as goal

-- by the test that the code makes
by-test : (sheet : LayoutParams) (skew v size : Float) (b : Bool) → size ≡ float_with_sign false skew → le sheet.shear_min_deg size ≡ b → cond b v positive_zero ≡ applied sheet skew v
unfolding applied
by-test sheet skew v size b e t = ap (λ s. cond s v positive_zero) (sym t ∙ ap (le sheet.shear_min_deg) (e ∙ magnitude-is skew))

pub returns-then-sheet-abs : goal.returns-then-sheet-abs
returns-then-sheet-abs c = by-test c.args.sheet c.args.skew c.args.v _ true c.abs.ensures.value c.if-sheet-abs.true

pub returns-else-sheet-abs : goal.returns-else-sheet-abs
returns-else-sheet-abs c = by-test c.args.sheet c.args.skew c.args.v _ false c.abs.ensures.value c.if-sheet-abs.false

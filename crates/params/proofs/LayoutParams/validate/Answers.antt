use mathlib.Core.Path.{ap}
use mathlib.Core.Bool.{Bool, ◌&&◌}
use Rattle.params.specs.rules.Valid.{extent_ok, fallback_ok, fractions_ok, heights_ok, counts_ok}
use Rattle.params.proofs.LayoutParams.validate.Goals as goal

pub returns : goal.returns
returns c =
    let p = c.args.self in
    ap (λ (lengths : Bool). lengths && extent_ok p && fallback_ok p && fractions_ok p && heights_ok p && counts_ok p)
    c.lengths_ok.ensures

use native.Mathlib.Omega.{arith}
use Rattle.std.proofs.lemmas.Bool.Decides.{nat_tests}
use Rattle.showing.specs.rules.Inputs.{digit_value}
use Rattle.showing.proofs.reading.digit_value.Goals as goal
use Rattle.showing.proofs.reading.digit_value.Goals.{then-b-le57, else-b-le57}

pub returns : goal.returns
unfolding digit_value
returns c = elim c.if-b-le57.branch [ then-b-le57 w ↦ (grind (arith, nat_tests), omega arith) | else-b-le57 w ↦ (grind (arith, nat_tests), omega arith) ]

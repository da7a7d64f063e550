use Rattle.std.proofs.Common.{◌∙◌}
use lib.Ieee.{le, neg, of_bits}
use Rattle.rounding.proofs.Tests.{no, first-not, second-not}
use Rattle.rounding.proofs.HalfAway.{half, round_half_away-is, round_half_away-small}
use Rattle.rounding.proofs.round.Goals as goal

pub returns-then-x : goal.returns-then-x
returns-then-x c = c.round.ensures ∙ round_half_away-is c.args.x

pub returns-else-x : goal.returns-else-x
unfolding of_bits
returns-else-x c =
    let x = c.args.x in
    let t = no c.if-x.false in
    round_half_away-small x (first-not (le half x) (le half (neg x)) t) (second-not (le half x) (le half (neg x)) t)

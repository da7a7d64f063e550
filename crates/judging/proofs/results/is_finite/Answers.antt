use lib.Ieee.{of_bits, neg, div}
use Rattle.judging.proofs.ResultLaws.{finite-is}
use Rattle.judging.proofs.results.is_finite.Goals as goal

-- `judging::results::is_finite` meets its contract. Assumes nothing.

pub returns : goal.returns
unfolding of_bits neg div
returns c = finite-is c.args.v

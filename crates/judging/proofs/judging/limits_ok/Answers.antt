use Rattle.judging.proofs.judging.limits_ok.Goals as goal

-- `judging::judging::limits_ok` meets its contract. Assumes nothing.

pub returns : goal.returns
returns c = rw (c.slope_ok-sloped.ensures, c.skew_ok-skewed.ensures, c.capacity_ok-few.ensures, c.side_ok-high.ensures, c.side_ok-wide.ensures)

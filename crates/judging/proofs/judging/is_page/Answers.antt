use Rattle.judging.proofs.judging.is_page.Goals as goal

-- `judging::judging::is_page` meets its contract. Assumes nothing.

pub returns : goal.returns
returns c = rw (c.slope_ok-gentle.ensures, c.side_ok-high.ensures, c.side_ok-wide.ensures)

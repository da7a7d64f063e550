use Rattle.stages.specs.rules.Levels.{lent_fits}
use Rattle.stages.proofs.levels.PageFrame.lent_fits.Goals as goal

-- `stages::levels::PageFrame::lent_fits` meets its contract: both areas. Assumes nothing.

pub returns : goal.returns
unfolding lent_fits
returns c = rw (c.area.ensures, c.area-2.ensures)

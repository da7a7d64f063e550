use Rattle.stages.proofs.RulingLaws.{fit_is}
use Rattle.stages.proofs.sorting_parts.rulings_fit.Goals as goal

-- `stages::sorting_parts::rulings_fit` meets its contract, test by test. Assumes nothing.

pub returns : goal.returns
returns c =
    fit_is _ _ _ _ _ _ _ _ _ c.is_mask_side.ensures c.is_mask_side-2.ensures c.area-dots.ensures

use mathlib.Core.Path.{refl}
use Rattle.stages.proofs.ExtentAnswerLaws.{extents-told}
use Rattle.stages.proofs.masks.novlizeb_run_extents.Goals as goal

-- `stages::masks::novlizeb_run_extents` promises what `sorting::run_extents` does. Assumes nothing.

pub returns : goal.returns
returns c =
    extents-told _ _ _ _ _ _
    c.args.columns
    c.run_extents.result
    _
    _
    c.run_extents.ensures
    c.along_of-along.ensures
    c.number_of-number.ensures
    refl

use mathlib.Core.Path.{sym, ap}
use mathlib.Core.Bool.{not}
use lib.Seq.{length-take-le}
use Rattle.judging.specs.rules.Spoiled.{ink_spoiled}
use Rattle.judging.proofs.segments.ink_spoiled.Goals as goal

-- `judging::segments::ink_spoiled` meets its contract: the front part is no mask. Assumes nothing.

pub slice_bounds-is_mask-end : goal.slice_bounds-is_mask-end
slice_bounds-is_mask-end c = sym (length-take-le c.args.dots c.args.ink.now c.requires)

pub returns : goal.returns
unfolding ink_spoiled
returns c = ap not c.is_mask.ensures

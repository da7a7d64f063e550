use mathlib.Core.Path.{sym, ap, ◌∙◌}
use lib.ListN.{get_or}
use lib.Dec.{ltb}
use Rattle.memory.specs.rules.Masks.{is_ink}
use Rattle.rulings.proofs.SweepLaws.{plane-inside}
use Rattle.rulings.proofs.plane.Plane.is_ink.Goals as goal

pub returns : goal.returns
unfolding is_ink
returns c = let p = c.requires in ap (λ k. ltb 0 (get_or c.args.self.ink.now k 0)) c.spot-at.ensures ∙ sym (plane-inside c.args.self.sweep c.args.self.ink.now c.args.i c.args.o p.0 p.1)

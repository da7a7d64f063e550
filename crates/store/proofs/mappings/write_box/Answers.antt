use native.Mathlib.Omega.{arith}
use lib.ListN.{length-set}
use Rattle.store.proofs.MappingLaws.{box-put}
use Rattle.store.proofs.mappings.write_box.Goals as goal

-- `store::mappings::write_box` meets its contract: four numbers over the front. Assumes nothing.

pub bounds-rect-1 : goal.bounds-rect-1
bounds-rect-1 c = simp length-set (omega arith)

pub bounds-rect-2 : goal.bounds-rect-2
bounds-rect-2 c = simp length-set (omega arith)

pub returns : goal.returns
returns c = let p = c.requires in box-put c.args.rect.now c.args.b p.0 p.1 p.2 p.3 p.4

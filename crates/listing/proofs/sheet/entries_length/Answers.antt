use mathlib.Core.Path.{ap}
use Prim.Native.Nat.{◌*◌}
use native.Mathlib.Omega.{arith}
use lib.ListN.{get_or}
use Rattle.listing.proofs.SheetLaws.{product_small}
use Rattle.listing.proofs.sheet.entries_length.Goals as goal

pub overflow_mul-result : goal.overflow_mul-result
overflow_mul-result c = let p = product_small (get_or c.args.figures.now c.args.k 0) c.entry_length.result (omega (arith, c.type_inv.figures c.args.k)) c.entry_length.ensures.1 in omega arith

pub returns : goal.returns
returns c =
    (ap (λ z. get_or c.args.figures.now c.args.k 0 * z) c.entry_length.ensures.0, product_small (get_or c.args.figures.now c.args.k 0) c.entry_length.result (omega (arith, c.type_inv.figures c.args.k)) c.entry_length.ensures.1)

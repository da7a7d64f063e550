-- What levelling is handed, as the code hands it on: mask and sheet, and a record of the rest (01, part 3: mask, sides, skew, slope, sheet and P).
use Rattle.std.specs.Prelude.{List, ℕ}
use Rattle.params.specs.declared.LayoutParams.{LayoutParams}
use Rattle.judging.specs.rules.Leaves.{Leaf, leaf_of}
use Rattle.store.specs.declared.leaves.Handed.{Handed}

abbrev pub leaf_handed : List ℕ → Handed → LayoutParams → Leaf
leaf_handed mask a sheet = leaf_of mask a.width a.height a.skew a.slope sheet a.capacity

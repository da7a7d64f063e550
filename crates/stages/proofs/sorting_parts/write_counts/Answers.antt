use native.Mathlib.Omega.{arith}
use mathlib.Core.List.{[], ◌∷◌}
use lib.ListN.{length-set}
use Rattle.memory.proofs.CopyLaws.{stores-over}
use Rattle.stages.proofs.sorting_parts.write_counts.Goals as goal

-- `stages::sorting_parts::write_counts` meets its contract: two stores over the front. Assumes nothing.

pub bounds-counts-1 : goal.bounds-counts-1
bounds-counts-1 c = let l = c.requires.0 in simp length-set (omega arith)

pub returns : goal.returns
returns c = stores-over (c.args.cuts.horizontal ∷ c.args.cuts.vertical ∷ []) c.args.counts.now c.requires.0

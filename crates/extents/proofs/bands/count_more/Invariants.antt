use mathlib.Core.Bool.{cond}
use Prim.Native.Nat.{◌+◌}
use lib.ListN.{get_or}
use Rattle.memory.specs.rules.Masks.{is_ink}
use Rattle.extents.specs.stages.Bands.{Put}
use Rattle.extents.proofs.bands.count_more.Given as goal

abbrev pub invariant-loop-i : goal.invariant-loop-i
invariant-loop-i l = Put (λ k. cond (is_ink l.dots k) (get_or l.initial.counts k 0 + 1) 0) 0 l.i l.initial.counts l.counts

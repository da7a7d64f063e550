use Prim.Native.Nat.{ℕ, ◌*◌, ◌≤◌, ◌<◌}
use lib.ListN.{get_or}
use Rattle.smoothing.proofs.smooth.row_end.Given as goal

abbrev pub invariant-loop-end : goal.invariant-loop-end
invariant-loop-end l = (j : ℕ) → j < l.end → l.first ≤ j → get_or l.words (2 * j) 0 < l.limit

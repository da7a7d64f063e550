use mathlib.Core.Path.{◌≡◌}
use mathlib.Core.Bool.{false}
use Prim.Native.Nat.{◌<◌, ℕ}
use lib.ListN.{get_or}
use Rattle.rulings.proofs.columns.any_reached.Given as goal

abbrev pub invariant-loop-since : goal.invariant-loop-since
invariant-loop-since l = l.found ≡ false → (k : ℕ) → k < l.since-index → get_or l.since-items k 0 < l.run_min

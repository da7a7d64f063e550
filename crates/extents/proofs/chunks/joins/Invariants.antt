use mathlib.Core.Path.{◌≡◌}
use mathlib.Core.Bool.{false, ◌&&◌}
use Prim.Native.Nat.{ℕ, ◌<◌}
use lib.ListN.{length}
use Rattle.memory.specs.rules.Masks.{is_ink}
use Rattle.extents.proofs.chunks.joins.Given as goal

abbrev pub invariant-loop-dot : goal.invariant-loop-dot
invariant-loop-dot l = l.found ≡ false → (k : ℕ) → k < length l.yielded → (is_ink l.dots k && is_ink l.behind k) ≡ false

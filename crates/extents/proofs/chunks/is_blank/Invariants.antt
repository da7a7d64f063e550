use mathlib.Core.Path.{◌≡◌}
use mathlib.Core.Bool.{true, false}
use Prim.Native.Nat.{ℕ, ◌<◌}
use Rattle.memory.specs.rules.Masks.{is_ink}
use Rattle.extents.proofs.chunks.is_blank.Given as goal

abbrev pub invariant-loop-dot : goal.invariant-loop-dot
invariant-loop-dot l = l.blank ≡ true → (k : ℕ) → k < l.dot-index → is_ink l.dots k ≡ false

use lib.ListN.{length}
use mathlib.Core.Path.{◌≡◌}
use Prim.Native.Nat.{◌≤◌}
use Rattle.memory.specs.rules.Lists.{count_if}
use Rattle.memory.specs.rules.Masks.{is_ink}
use Rattle.labelling.proofs.runs.ink_count.Given as goal

abbrev pub invariant-loop-byte : goal.invariant-loop-byte
invariant-loop-byte l = (l.byte-index ≤ length l.chunk) × (l.count ≤ l.byte-index) × (l.count ≡ count_if (is_ink l.chunk) l.byte-index)

use mathlib.Core.Path.{◌≡◌}
use Prim.Native.Nat.{◌≤◌}
use lib.ListN.{length}
use Rattle.memory.specs.rules.Lists.{count_if}
use Rattle.memory.specs.rules.Masks.{is_ink}
use Rattle.labelling.specs.stages.Marked.{passing}
use Rattle.labelling.proofs.marked.count_passing.Given as goal

abbrev pub invariant-loop-byte : goal.invariant-loop-byte
invariant-loop-byte l = (l.count ≤ length l.yielded) × (l.count ≡ count_if (is_ink (passing l.test l.ink l.marks 32)) (length l.yielded))

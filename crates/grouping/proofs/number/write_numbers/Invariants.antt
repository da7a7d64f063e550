use Prim.Native.Nat.{ℕ}
use mathlib.Core.Path.{◌≡◌}
use lib.ListN.{length, get_or}
use Rattle.grouping.specs.stages.Numbering.{with_blocks}
use Rattle.grouping.proofs.number.write_numbers.Given as goal

abbrev pub invariant-loop-i : goal.invariant-loop-i
invariant-loop-i l = (length l.lines ≡ length l.initial.lines) × (l.lines ≡ with_blocks (λ (k : ℕ). get_or l.numbers k 0) l.i l.initial.lines)

use mathlib.Core.Path.{◌≡◌}
use mathlib.Core.List.{◌++◌}
use lib.ListN.{length, take, drop}
use Rattle.memory.proofs.words.copy_over.Given as goal

abbrev pub invariant-loop-i : goal.invariant-loop-i
invariant-loop-i g l = (l.dst ≡ take l.i l.src ++ drop l.i l.fn.dst) × (length l.dst ≡ length l.fn.dst)

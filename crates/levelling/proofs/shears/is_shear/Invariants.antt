use mathlib.Core.Path.{◌≡◌}
use Prim.Native.Nat.{ℕ, ◌<◌}
use lib.ListN.{get_or}
use Rattle.levelling.specs.stages.Entries.{entry_of}
use Rattle.levelling.proofs.shears.is_shear.Given as goal

abbrev pub invariant-loop-c : goal.invariant-loop-c
invariant-loop-c l = (i : ℕ) → i < l.c → get_or l.words i 0 ≡ entry_of l.shear.which l.shear.slope l.shear.least i

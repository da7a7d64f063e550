use mathlib.Core.Path.{◌≡◌}
use Prim.Native.Nat.{◌+◌, ◌*◌, ◌≤◌}
use Rattle.listing.proofs.EntryLaws.{digits_to}
use Rattle.listing.proofs.formats.entry_length.Given as goal

abbrev pub invariant-loop-j : goal.invariant-loop-j
invariant-loop-j l = (l.bytes ≡ 3 + digits_to l.kind l.j) × (l.bytes ≤ 3 + 8 * l.j)

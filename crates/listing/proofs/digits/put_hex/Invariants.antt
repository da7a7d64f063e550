use mathlib.Core.Path.{◌≡◌}
use Prim.Native.Nat.{◌*◌, ◌/◌, ◌^◌}
use Rattle.listing.proofs.DigitLaws.{Written}
use Rattle.listing.proofs.digits.put_hex.Given as goal

abbrev pub invariant-loop-k : goal.invariant-loop-k
invariant-loop-k l = (l.v ≡ l.value / 16 ^ (2 * l.k)) × Written l.initial.out l.at l.digits (2 * l.k) l.value l.out

use mathlib.Core.Path.{◌≡◌}
use Prim.Native.Nat.{◌<◌, ◌^◌}
use Rattle.showing.specs.rules.Inputs.{number_at}
use Rattle.showing.proofs.reading.number_at.Given as goal

abbrev pub invariant-loop-b : goal.invariant-loop-b
invariant-loop-b l = (l.v ≡ number_at l.s l.at l.b-index) × (l.v < 16 ^ l.b-index)

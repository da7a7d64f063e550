use Prim.Native.Nat.{◌≤◌}
use mathlib.Core.Path.{◌≡◌}
use Rattle.judging.specs.rules.Spoiled.{every}
use Rattle.judging.proofs.ResultLaws.{dot_at}
use Rattle.judging.proofs.results.planes_ok.Given as goal

abbrev pub invariant-loop-i : goal.invariant-loop-i
invariant-loop-i l = (l.i ≤ l.n) × (l.ok ≡ every (dot_at l.ink l.kinds) l.i)

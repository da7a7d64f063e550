use mathlib.Core.Path.{◌≡◌}
use mathlib.Core.Bool.{Bool}
use Prim.Native.Nat.{ℕ, ◌+◌, ◌*◌, ◌<◌}
use Rattle.judging.specs.rules.Spoiled.{every}
use Rattle.judging.proofs.results.each_ok.Given as goal

abbrev pub invariant-loop-i : goal.invariant-loop-i
invariant-loop-i g l = (p : ℕ → Bool) → ((i : ℕ) (b : Bool) → i < l.r.n → goal.F-post g l.test (l.r.at + i * l.r.width) b → b ≡ p i) → l.ok ≡ every p l.i

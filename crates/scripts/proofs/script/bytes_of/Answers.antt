use mathlib.Core.Path.{◌≡◌}
use Prim.Native.Nat.{◌+◌, ◌-◌}
use native.Mathlib.Omega.{arith}
use Rattle.scripts.specs.rules.Scripts.{bytes_of}
use Rattle.scripts.proofs.script.bytes_of.Goals as goal

pub returns : goal.returns
unfolding bytes_of
returns c =
    let n = c.cut-n.result in
    let from = c.cut-from.result in
    let e : from + n - from ≡ n = omega arith in
    rw (e, c.cut-n.ensures, c.cut-from.ensures)

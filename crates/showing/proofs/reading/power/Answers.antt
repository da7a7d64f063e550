use mathlib.Core.Path.{◌≡◌, ◌∙◌}
use Prim.Native.Nat.{◌*◌, ◌%◌, ◌^◌}
use native.Mathlib.Nat.{one-mul}
use lib.Pow.{pow_pos, shl_exact}
use native.Mathlib.Omega.{arith}
use Rattle.showing.proofs.reading.power.Goals as goal

pub returns : goal.returns
returns c =
    let k = c.args.k in
    let e : (1 * 2 ^ k) % 2 ^ 64 ≡ 2 ^ k = shl_exact {a = 1} 1 k 64 (omega arith) (omega arith) ∙ one-mul (2 ^ k) in
    (e, (let p = pow_pos k in omega arith))

use Prim.Native.Nat.{◌≤◌, ◌*◌}
use native.Mathlib.Nat.{mul-le-mul}
use native.Mathlib.Omega.{arith}
use Rattle.replay.proofs.masks.dots.Goals as goal

-- `replay::masks::dots` is safe: the product of two numbers below 2 ^ 32 is below 2 ^ 64. Assumes nothing.

pub overflow_mul-result : goal.overflow_mul-result
overflow_mul-result c =
    let w : c.args.width ≤ 4294967295 = omega arith in
    let h : c.args.height ≤ 4294967295 = omega arith in
    let most : c.args.width * c.args.height ≤ 4294967295 * 4294967295 = mul-le-mul w h in
    record { fits = omega arith }

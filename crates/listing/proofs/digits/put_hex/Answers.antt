use Prim.Native.Nat.{◌*◌}
use native.Mathlib.Omega.{arith}
use Rattle.listing.proofs.DigitLaws.{none_written, pair_step, two-quotients, hex-written, odd-digit, length-hex}
use Rattle.listing.proofs.digits.put_hex.Goals as goal

pub loop-k-init : goal.loop-k-init
loop-k-init c = let a = c.args in (omega arith, none_written a.out.now a.at a.digits a.value (omega arith))

pub loop-k-preserved : goal.loop-k-preserved
loop-k-preserved c =
    let a = c.args in
    let k = c.loop-k in
    (two-quotients a.value k.v k.k k.invariant.0, pair_step a.out.now k.out a.at a.digits k.k k.v a.value c.pair-high.result.0 c.pair-high.result.1 (omega arith) (omega arith) k.invariant.0 c.pair-high.ensures.0 c.pair-high.ensures.1 k.invariant.1)

pub returns-then-digits-eq1 : goal.returns-then-digits-eq1
returns-then-digits-eq1 c =
    let a = c.args in
    let k = c.loop-k in
    record {
      place = (let l = length-hex a.digits a.value in omega arith);
      bytes = odd-digit a.out.now k.out a.at a.digits k.k k.v a.value c.pair.result.1 (omega arith) (omega arith) c.if-digits-eq1.true k.invariant.0 c.pair.ensures.1 k.invariant.1;
    }

pub returns-else-digits-eq1 : goal.returns-else-digits-eq1
returns-else-digits-eq1 c =
    let a = c.args in
    record {
      place = (let l = length-hex a.digits a.value in omega arith);
      bytes = hex-written a.out.now c.loop-k.out a.at a.digits (2 * c.loop-k.k) a.value (omega arith) c.loop-k.invariant.1;
    }

use mathlib.Core.Path.{ap}
use Prim.Native.Nat.{ℕ, ◌+◌, ◌%◌, ◌/◌, ◌^◌}
use lib.ListN.{set}
use Rattle.memory.proofs.floats.put_float.Goals as goal

pub returns : goal.returns
returns c =
    ap (λ (b : ℕ). set (set c.args.out.now c.args.at (b % 2 ^ 32)) (c.args.at + 1) (b / 2 ^ 32)) c.bits_of-b.ensures

use mathlib.Core.Path.{◌≡◌}
use Prim.Native.Nat.{max}
use Rattle.std.proofs.Common.{rules}
use Rattle.std.specs.List.{fold}
use Rattle.memory.proofs.MaskLaws.{mask-by-greatest}
use Rattle.memory.proofs.masks.is_mask.Goals as goal

pub returns : goal.returns
returns c =
    let e : c.fold-most.result ≡ fold (λ most byte. max most byte) 0 c.args.mask.now = search rules in
    mask-by-greatest c.args.mask.now c.fold-most.result e

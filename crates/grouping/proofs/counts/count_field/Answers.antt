use borrow.Author.Rules.{rules}
use Prim.Native.Nat.{ℕ, ◌+◌, ◌*◌, ◌<◌}
use mathlib.Core.Path.{◌≡◌}
use lib.ListN.{get_or, length}
use native.Mathlib.Omega.{arith}
use Rattle.std.proofs.iter.Serving.{serving}
use Rattle.grouping.proofs.counts.count_field.Goals as goal

pub count_values-requires : goal.count_values-requires
count_values-requires c =
    let value : ℕ → ℕ = λ i. get_or c.args.lines.now (i * 8 + c.args.field) 0 in (
      (
        value,
        λ i l.
            let low : i * 8 + c.args.field < length c.args.lines.now = omega arith in
            (grind serving, λ v p. let e : v ≡ value i = search rules in (e, omega (arith, c.requires.4 i l))),
      ),
      omega arith,
      omega arith,
    )

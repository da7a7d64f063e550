use borrow.Author.Rules.{rules}
use Prim.Native.Nat.{ℕ, ◌+◌, ◌*◌, ◌≤◌}
use mathlib.Core.Path.{◌≡◌, sym, ap, ◌∙◌}
use mathlib.Core.List.{List}
use lib.ListN.{length}
use native.Mathlib.Omega.{arith}
use Rattle.std.proofs.iter.Serving.{serving}
use Rattle.memory.specs.rules.Rects.{height}
use Rattle.memory.specs.rules.Words.{over}
use Rattle.memory.proofs.ListLaws.{map-table}
use Rattle.grouping.specs.stages.Counts.{counts}
use Rattle.grouping.specs.rules.HeldLines.{line_box}
use Rattle.grouping.proofs.block.TextLines.count_heights.Goals as goal

pub count_values-requires : goal.count_values-requires
count_values-requires c =
    let value : ℕ → ℕ = λ i. height (line_box c.args.self.now.words.now i) in (
      (
        value,
        λ i l.
            let b = c.requires.0.1.boxes i l in
            let room : i * 8 + 8 ≤ length c.args.self.now.words.now = omega (arith, c.requires.0.1.room) in
            (grind serving, λ v p. let e : v ≡ value i = search rules in (e, omega (arith, b.bottom))),
      ),
      omega arith,
      omega arith,
    )

pub returns : goal.returns
returns c = c.count_values.ensures (λ i. height (line_box c.args.self.now.words.now i)) (λ i v l p. search rules)
    ∙ ap (λ (l : List ℕ). over (counts l (c.args.self.now.h + 1)) c.args.table.now) (sym (map-table height (line_box c.args.self.now.words.now) c.args.self.now.n))

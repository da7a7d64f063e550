use mathlib.Core.Path.{◌≡◌, refl, sym, ap, ◌∙◌}
use mathlib.Core.List.{List, ◌++◌}
use Prim.Native.Nat.{ℕ, ◌*◌}
use native.Mathlib.Omega.{arith}
use lib.ListN.{length, take, drop}
use borrow.Author.Rules.{rules}
use Rattle.memory.specs.rules.Lists.{table}
use Rattle.memory.proofs.TableLaws.{table_more, table-whole, length-table}
use Rattle.showing.specs.rules.Inputs.{dot_at, dots_in}
use Rattle.showing.proofs.rows.fill_mask.Goals as goal

pub loop-i-init : goal.loop-i-init
unfolding table
loop-i-init c = refl

pub loop-i-preserved : goal.loop-i-preserved
loop-i-preserved c = table_more (dot_at c.args.s.now c.args.w) _ c.loop-i.page c.loop-i.i c.dot_at.result (omega arith) c.loop-i.invariant c.dot_at.ensures

pub returns : goal.returns
unfolding dots_in
returns c =
    let f : ℕ → ℕ = dot_at c.args.s.now c.args.w in
    let n : ℕ = c.args.w * c.args.h in
    let front : List ℕ = take n c.args.mask.now in
    let long : length front ≡ n = search rules in
    let whole : c.loop-i.page ≡ table f n = table-whole f front c.loop-i.page c.loop-i.i c.loop-i.invariant (omega arith) ∙ ap (table f) long in
    λ k. whole k ++ drop (sym (length-table f n) k) c.args.mask.now

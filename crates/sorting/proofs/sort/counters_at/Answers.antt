use native.Mathlib.Omega.{arith}
use Prim.Native.Nat.{◌+◌, ◌*◌, ◌≤◌}
use borrow.Author.Tests.{leb-true}
use lib.Dec.{leb}
use Rattle.memory.proofs.BoolLaws.{and_left, and_right}
use Rattle.sorting.proofs.sort.counters_at.Goals as goal

pub returns-then-at-w : goal.returns-then-at-w
returns-then-at-w c =
    let a = c.args in
    let end = a.plan.marks in
    let x : 3 * a.runs + 2 * a.plan.width ≤ end = leb-true _ _ (and_left (leb (3 * a.runs + 2 * a.plan.width) end) (leb (3 * a.runs + 2 * a.plan.height) end) c.if-at-w.true) in
    let y : 3 * a.runs + 2 * a.plan.height ≤ end = leb-true _ _ (and_right (leb (3 * a.runs + 2 * a.plan.width) end) (leb (3 * a.runs + 2 * a.plan.height) end) c.if-at-w.true) in
    (x, y)

pub returns-else-at-w : goal.returns-else-at-w
returns-else-at-w c = (omega arith, omega arith)

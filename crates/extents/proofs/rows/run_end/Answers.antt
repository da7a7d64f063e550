use native.Mathlib.Omega.{arith}
use Rattle.memory.specs.rules.Masks.{is_ink}
use Rattle.extents.proofs.ExtentLaws.{same-bit, other-bit, scan-more}
use Rattle.extents.proofs.rows.run_end.Goals as goal

pub returns-then-row-e : goal.returns-then-row-e
unfolding is_ink
returns-then-row-e c = record { low = omega arith; high = omega arith; all = c.loop-e.invariant; stop = λ _. other-bit (is_ink c.args.row.now c.loop-e.e) c.args.ink c.if-row-e.true }

pub loop-e-preserved : goal.loop-e-preserved
unfolding is_ink
loop-e-preserved c = scan-more (is_ink c.args.row.now) c.args.ink c.args.x c.loop-e.e c.loop-e.invariant (same-bit (is_ink c.args.row.now c.loop-e.e) c.args.ink c.if-row-e.false)

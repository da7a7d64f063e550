use native.Mathlib.Omega.{arith}
use Rattle.smoothing.proofs.smooth.smooth_row.Goals as goal

pub smooth_run-walk-requires : goal.smooth_run-walk-requires
smooth_run-walk-requires c = let p = c.requires in let e = c.loop-i.invariant.1 in (p.0, p.1, c.loop-i.invariant.2 p.0 p.1 p.2 p.3, p.3, omega arith, omega arith)

use Rattle.extents.proofs.ExtentLaws.{row-skip}
use Rattle.extents.proofs.BandLaws.{chunk-apart}
use native.Mathlib.Omega.{arith}
use Rattle.extents.proofs.rows.extents_from.Goals as goal

pub returns-then-not-joins : goal.returns-then-not-joins
returns-then-not-joins c =
    let s = c.chunk_end-to.ensures in
    let a = c.args in
    (s.0, row-skip a.row.now a.x a.extents.now c.requires.1 c.chunk_end-to.result s.0 (chunk-apart a.x c.chunk_end-to.result 1 a.row.now (omega (arith, s.1)) (c.joins.ensures c.if-not-joins.true)) (omega (arith, s.1)))

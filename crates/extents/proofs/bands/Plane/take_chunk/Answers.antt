use Prim.Native.Nat.{◌+◌}
use native.Mathlib.Omega.{arith}
use Rattle.extents.proofs.BandLaws.{take_none, chunk-apart}
use Rattle.extents.proofs.bands.Plane.take_chunk.Goals as goal

pub returns-then-not-joins : goal.returns-then-not-joins
returns-then-not-joins c =
    let a = c.args in
    let p = c.requires in
    take_none p.0 (chunk-apart a.from (a.from + 32) a.self.w a.self.mask.now (omega (arith, p.0.inside, p.0.size)) (c.joins.ensures c.if-not-joins.true))

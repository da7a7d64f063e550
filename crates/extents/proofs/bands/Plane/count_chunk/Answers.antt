use native.Mathlib.Omega.{arith}
use Rattle.extents.proofs.PutLaws.{put-filled}
use Rattle.extents.proofs.BandLaws.{count-blank, chunk-blank}
use Prim.Native.Nat.{◌+◌}
use Rattle.extents.proofs.bands.Plane.count_chunk.Goals as goal

pub returns-then-is_blank : goal.returns-then-is_blank
returns-then-is_blank c =
    let a = c.args in
    let p = c.requires in
    put-filled a.from (a.from + 64) 0 a.extents.now c.fill.new.self (omega arith) (omega (arith, p.0.inside, p.0.room)) (c.fill.ensures.after (λ y h. h)) (λ k x y. count-blank a.self.w a.self.mask.now k p.0.wide (chunk-blank a.from (a.from + 64) a.self.mask.now p.0.inside (c.is_blank.ensures c.if-is_blank.true) k x y))

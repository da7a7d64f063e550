use native.Mathlib.Omega.{arith}
use mathlib.Core.Path.{◌≡◌, refl}
use Prim.Native.Nat.{◌+◌, ◌-◌, ◌*◌, ◌%◌}
use native.Mathlib.Nat.{le_refl}
use Rattle.extents.proofs.PutLaws.{put-ends}
use Rattle.extents.proofs.BandLaws.{last-row-ends, row_below, takes-next, take_last}
use Rattle.extents.proofs.bands.Plane.take_row.Goals as goal

pub returns-then-y-self : goal.returns-then-y-self
returns-then-y-self c =
    let a = c.args in
    let p = c.requires in
    take_last p (last-row-ends a.self.w a.self.h a.y c.if-y-self.true)

pub take_chunk-requires : goal.take_chunk-requires
take_chunk-requires c =
    let a = c.args in
    let p = c.requires in
    let b = row_below a.self.w a.self.h a.y p.wide p.inside c.if-y-self.false in
    let z : a.y * a.self.w + a.self.w % 32 + c.loop-chunk.chunk * 32 ≡ a.y * a.self.w + a.self.w % 32 + (c.loop-chunk.chunk - 1) * 32 + 32 = omega arith in
    (takes-next p (a.y * a.self.w + a.self.w % 32 + (c.loop-chunk.chunk - 1) * 32) (put-ends c.loop-chunk.invariant z refl) (omega arith) (omega arith) (omega arith), omega (arith, b))

pub take_dots-requires : goal.take_dots-requires
take_dots-requires c =
    let a = c.args in
    let p = c.requires in
    let b = row_below a.self.w a.self.h a.y p.wide p.inside c.if-y-self.false in
    (takes-next p (a.y * a.self.w) (put-ends c.loop-chunk.invariant (omega arith) refl) (le_refl _) (omega arith) (omega arith), omega (arith, b))

use mathlib.Core.Path.{◌≡◌, refl, ◌∙◌}
use Prim.Native.Nat.{◌+◌, ◌-◌}
use native.Mathlib.Omega.{arith}
use Rattle.extents.proofs.CrowdedLaws.{row_put, short-is}
use Rattle.extents.proofs.ExtentLaws.{row-size}
use Rattle.extents.proofs.PutLaws.{put_as, put-ends, put-over}
use Rattle.extents.proofs.crowded.Part.short_extents.Goals as goal

pub short_chunk-requires : goal.short_chunk-requires
short_chunk-requires c =
    let a = c.args in
    let p = c.requires in
    (omega (arith, p.2), omega (arith, p.3), c.loop-chunk.invariant.size ∙ row-size a.self.row.now a.self.x a.extents.now p.1)

pub short_chunk-requires-2 : goal.short_chunk-requires-2
short_chunk-requires-2 c =
    let a = c.args in
    let p = c.requires in
    (omega (arith, p.2, p.5), omega (arith, p.3, p.5), c.loop-chunk.invariant.size ∙ row-size a.self.row.now a.self.x a.extents.now p.1)

pub returns : goal.returns
returns c =
    let a = c.args in
    let p = c.requires in
    let e : a.self.to - 32 + 32 ≡ a.self.to = omega (arith, p.5) in
    row_put p.1 p.0
    (put_as (put-over c.loop-chunk.invariant (put-ends c.short_chunk-2.ensures refl e) (omega (arith, p.5)) (omega arith) (omega arith)) (λ k x y. short-is a.self.row.now a.self.x a.self.to p.0.from p.3 p.4 k p.2 x y))

use native.Mathlib.Omega.{arith}
use mathlib.Core.Path.{◌∙◌}
use Prim.Native.Nat.{ℕ, ◌≤◌, ◌<◌, ◌+◌, ◌*◌}
use lib.ListN.{length}
use Rattle.extents.specs.rules.Extents.{ink_at, behind}
use Rattle.memory.proofs.PartLaws.{length_part}
use Rattle.extents.proofs.RunLaws.{behind-le}
use Rattle.extents.proofs.ExtentLaws.{row_upto}
use Rattle.extents.proofs.BandLaws.{rows_fit, columns-more}
use Rattle.extents.proofs.bands.Plane.count_columns.Goals as goal

-- the dots of a row among those counted are the mask's
dots_fit : (w y x n r m : ℕ) → r < 32 → 0 < w → (y + 32) * w ≤ m → x + n ≤ w → (y + r ≤ m) × ((y + r) * w + x + n ≤ m)
dots_fit w y x n r m l s p q =
    let z = row_upto w (y + 32) (y + r) (omega arith) in
    let k = rows_fit w (y + 32) s in
    (omega arith, omega arith)

pub loop-r-init : goal.loop-r-init
unfolding behind
loop-r-init c = let p = c.requires in p.3

pub count_more-requires : goal.count_more-requires
count_more-requires c =
    let a = c.args in
    let z = dots_fit c.args.self.w c.args.y c.args.x (length c.args.counts.now) c.loop-r.r (length c.args.self.mask.now) (omega arith) c.requires.0 c.requires.1 c.requires.2 in
    let q = length_part ((a.y + c.loop-r.r) * a.self.w + a.x) ((a.y + c.loop-r.r) * a.self.w + a.x + length a.counts.now) a.self.mask.now (omega arith) (omega arith) in
    (omega arith, λ k u. let e = c.loop-r.invariant k (omega arith) in let b = behind-le (λ j. ink_at a.self.w a.self.mask.now (a.x + k) (a.y + j)) c.loop-r.r in omega arith)

pub loop-r-preserved : goal.loop-r-preserved
loop-r-preserved c =
    let a = c.args in
    let p = c.requires in
    let z = dots_fit c.args.self.w c.args.y c.args.x (length c.args.counts.now) c.loop-r.r (length c.args.self.mask.now) (omega arith) c.requires.0 c.requires.1 c.requires.2 in
    let q = length_part ((a.y + c.loop-r.r) * a.self.w + a.x) ((a.y + c.loop-r.r) * a.self.w + a.x + length a.counts.now) a.self.mask.now (omega arith) (omega arith) in
    λ k u. c.count_more.ensures.put k (omega arith) (omega arith) ∙ columns-more a.self.w a.y a.x (length c.loop-r.counts) c.loop-r.r a.self.mask.now c.loop-r.counts k (omega arith) (omega arith) (c.loop-r.invariant k u)

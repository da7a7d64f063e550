use mathlib.Core.Path.{◌≡◌, refl, ◌∙◌}
use native.Mathlib.Omega.{arith}
use Prim.Native.Nat.{ℕ, ◌≤◌}
use lib.ListN.{length, take, replicate, length-replicate, get_or-replicate}
use Rattle.std.proofs.lemmas.List.{length-take-le, get_or-take}
use Rattle.extents.proofs.PutLaws.{put_as, put-ends}
use Rattle.extents.proofs.BandLaws.{count-first-band, count-through-band}
use Rattle.extents.proofs.bands.Plane.count_last_chunk.Goals as goal

-- so many columns of a chunk
front : (n : ℕ) → n ≤ 64 → length (take n (replicate {A = ℕ} 64 0)) ≡ n
front n l = length-take-le n (replicate {A = ℕ} 64 0) (let z = length-replicate {A = ℕ} 64 0 in omega arith)

pub count_columns-requires : goal.count_columns-requires
count_columns-requires c =
    let p = c.requires in
    let e = front c.args.n p.2 in
    (p.0.wide, p.0.inside, omega (arith, e), λ k u. get_or-take c.args.n (replicate {A = ℕ} 64 0) k 0 (omega (arith, e)) ∙ get_or-replicate 64 k 0 0 (omega (arith, e)))

pub returns-then-y-eq0 : goal.returns-then-y-eq0
returns-then-y-eq0 c =
    let a = c.args in
    let p = c.requires in
    let e : length c.count_columns.new.counts ≡ a.n = c.count_columns.auto.counts ∙ front a.n p.2 in
    put_as (put-ends c.widen.ensures refl (omega (arith, e))) (count-first-band a.self.w a.y a.x a.n a.self.mask.now c.count_columns.new.counts a.extents.now p.0 p.1 (λ j u. c.count_columns.ensures j (omega (arith, front a.n p.2))) c.if-y-eq0.true)

pub returns : goal.returns
returns c =
    let a = c.args in
    let p = c.requires in
    let e : length c.count_columns.new.counts ≡ a.n = c.count_columns.auto.counts ∙ front a.n p.2 in
    put_as (put-ends c.add_counts.ensures refl (omega (arith, e))) (count-through-band a.self.w a.y a.x a.n a.self.mask.now c.count_columns.new.counts a.extents.now p.0 p.1 (λ j u. c.count_columns.ensures j (omega (arith, front a.n p.2))) (omega (arith, c.if-y-eq0.false)))

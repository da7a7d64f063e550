use Prim.Native.Nat.{◌+◌, ◌-◌}
use native.Mathlib.Omega.{arith}
use Rattle.rulings.specs.stages.Sweeps.{widened_scanline}
use Rattle.extents.proofs.RunLaws.{behind-le}
use Rattle.rulings.proofs.ColumnLaws.{counted-between, recounted-all, recounted-row, row-spot}
use Rattle.rulings.proofs.plane.Plane.count_row.Goals as goal

pub count_between-requires : goal.count_between-requires
count_between-requires c =
    let a = c.args in
    let p = c.requires in
    let h = c.args.self.laid.inside a.y (a.b - 1) p.3 (omega arith) in
    let r = row-spot a.self.sweep a.y (a.b - 1) p.0 in
    let C = counted-between a.self.sweep a.self.ink.now a.a a.b a.y a.words.now c.count_end.new.words p.4 c.if-a-b.true c.count_end.ensures c.count_end-then-a-b.new.words c.count_end-then-a-b.ensures in (
      omega arith,
      omega arith,
      omega arith,
      omega (arith, c.words-1.given, c.words-then-a-b-1.given, p.5),
      λ o j k. let e = C.each o j k in let b = behind-le (widened_scanline a.self.sweep a.self.ink.now o) a.y in let n = c.args.self.laid.narrow in omega arith,
    )

pub returns-then-a-b : goal.returns-then-a-b
returns-then-a-b c =
    let a = c.args in
    let p = c.requires in
    recounted-all a.self.sweep a.self.ink.now a.a a.b a.y a.words.now c.count_end.new.words p.4 c.if-a-b.true c.count_end.ensures c.count_end-then-a-b.new.words c.count_end-then-a-b.ensures c.count_between.new.words
    (recounted-row a.self.sweep a.self.ink.now (a.a + 1) (a.b - 1) a.y c.count_end-then-a-b.new.words c.count_between.new.words p.0 p.3 (omega arith) (omega arith) (counted-between a.self.sweep a.self.ink.now a.a a.b a.y a.words.now c.count_end.new.words p.4 c.if-a-b.true c.count_end.ensures c.count_end-then-a-b.new.words c.count_end-then-a-b.ensures) c.count_between.ensures)

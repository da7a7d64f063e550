use mathlib.Core.Path.{ap, sym, ◌∙◌, ◌≡◌, refl}
use Rattle.grouping.proofs.ColumnWords.{written_none, written-few, written_last, written-no, written-yes, written_all}
use lib.Seq.{get_or-take, length-take-le}
use Rattle.grouping.specs.rules.Columns.{enough_cover}
use native.Mathlib.Omega.{arith}
use Rattle.grouping.proofs.column.write_columns.Goals as goal
use Rattle.grouping.proofs.column.write_columns.Goals.{else-enough_cover, then-enough_cover}

pub loop-x-init : goal.loop-x-init
loop-x-init c = (refl, written_none _ _ _)

pub put_column-n-requires : goal.put_column-n-requires
put_column-n-requires c = let z = length-take-le c.args.w c.args.cover.now (omega arith) in let v = c.loop-x.invariant.1 in let f = written-few _ _ _ _ _ _ v in (omega arith, written_last _ _ _ _ _ _ v)

pub loop-x-preserved : goal.loop-x-preserved
loop-x-preserved c = let q = c.args in
    let z = length-take-le q.w q.cover.now (omega arith) in
    let e = c.enough_cover.ensures ∙ ap (enough_cover q.frac q.busiest) (get_or-take q.w q.cover.now c.loop-x.x 0 (omega arith)) in
    elim c.if-enough_cover.branch [
      | then-enough_cover w ↦ rw (w.out-is, w.n-is) (omega (arith, w.put_column-n.auto.out), written-yes q.gap _ q.out.now c.loop-x.out c.loop-x.n c.loop-x.x c.loop-x.invariant.1 w.put_column-n.new.out w.put_column-n.result (sym e ∙ w.if-enough_cover.true) w.put_column-n.ensures)
      | else-enough_cover w ↦ rw (w.out-is, w.n-is) (c.loop-x.invariant.0, written-no q.gap _ q.out.now c.loop-x.out c.loop-x.n c.loop-x.x c.loop-x.invariant.1 (sym e ∙ w.if-enough_cover.false))
    ]

pub returns : goal.returns
returns c = let z = length-take-le c.args.w c.args.cover.now (omega arith) in let v = c.loop-x.invariant.1 in let e : c.loop-x.x ≡ c.args.w = omega arith in written_all _ _ _ _ _ _ _ v e

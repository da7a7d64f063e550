use native.Mathlib.Omega.{arith}
use Rattle.sorting.proofs.SortLaws.{ink-cut}
use Rattle.sorting.proofs.sort.cut_ink.Goals as goal

pub returns : goal.returns
returns c =
    let a = c.args in
    let p = c.requires.1 in
    let Q = c.requires.2 in
    ink-cut a.at a.words.now c.thin_rulings.new.words Q.marks_is c.requires.0 (let x = p.plane.room in let y = p.before in omega arith) c.thin_rulings.ensures

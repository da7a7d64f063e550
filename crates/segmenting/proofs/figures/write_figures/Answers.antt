use native.Mathlib.Omega.{arith}
use lib.ListN.{length-set}
use Rattle.segmenting.proofs.FigureLaws.{figures-long, figures-written}
use Rattle.segmenting.proofs.figures.write_figures.Goals as goal

-- `segmenting::figures::write_figures` meets its contract: fifteen stores over the front. Assumes nothing.

pub put_float-requires : goal.put_float-requires
put_float-requires c = simp length-set (omega arith)

pub bounds-figures-3 : goal.bounds-figures-3
bounds-figures-3 c = let l = c.requires in let e = figures-long c.args.figures.now c.put_float.new.out _ _ c.requires c.put_float.ensures in omega arith

pub bounds-figures-4 : goal.bounds-figures-4
bounds-figures-4 c = let l = c.requires in let e = figures-long c.args.figures.now c.put_float.new.out _ _ c.requires c.put_float.ensures in simp length-set (omega arith)

pub bounds-figures-5 : goal.bounds-figures-5
bounds-figures-5 c = let l = c.requires in let e = figures-long c.args.figures.now c.put_float.new.out _ _ c.requires c.put_float.ensures in simp length-set (omega arith)

pub bounds-figures-6 : goal.bounds-figures-6
bounds-figures-6 c = let l = c.requires in let e = figures-long c.args.figures.now c.put_float.new.out _ _ c.requires c.put_float.ensures in simp length-set (omega arith)

pub bounds-figures-7 : goal.bounds-figures-7
bounds-figures-7 c = let l = c.requires in let e = figures-long c.args.figures.now c.put_float.new.out _ _ c.requires c.put_float.ensures in simp length-set (omega arith)

pub bounds-figures-8 : goal.bounds-figures-8
bounds-figures-8 c = let l = c.requires in let e = figures-long c.args.figures.now c.put_float.new.out _ _ c.requires c.put_float.ensures in simp length-set (omega arith)

pub bounds-figures-9 : goal.bounds-figures-9
bounds-figures-9 c = let l = c.requires in let e = figures-long c.args.figures.now c.put_float.new.out _ _ c.requires c.put_float.ensures in simp length-set (omega arith)

pub bounds-figures-10 : goal.bounds-figures-10
bounds-figures-10 c = let l = c.requires in let e = figures-long c.args.figures.now c.put_float.new.out _ _ c.requires c.put_float.ensures in simp length-set (omega arith)

pub bounds-figures-11 : goal.bounds-figures-11
bounds-figures-11 c = let l = c.requires in let e = figures-long c.args.figures.now c.put_float.new.out _ _ c.requires c.put_float.ensures in simp length-set (omega arith)

pub bounds-figures-12 : goal.bounds-figures-12
bounds-figures-12 c = let l = c.requires in let e = figures-long c.args.figures.now c.put_float.new.out _ _ c.requires c.put_float.ensures in simp length-set (omega arith)

pub bounds-figures-13 : goal.bounds-figures-13
bounds-figures-13 c = let l = c.requires in let e = figures-long c.args.figures.now c.put_float.new.out _ _ c.requires c.put_float.ensures in simp length-set (omega arith)

pub bounds-figures-14 : goal.bounds-figures-14
bounds-figures-14 c = let l = c.requires in let e = figures-long c.args.figures.now c.put_float.new.out _ _ c.requires c.put_float.ensures in simp length-set (omega arith)

pub returns : goal.returns
returns c =
    figures-written c.args.found c.args.figures.now c.put_float.new.out c.measured_word.result c.value.result c.requires c.measured_word.ensures c.value.ensures c.put_float.ensures

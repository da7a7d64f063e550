use native.Mathlib.Omega.{arith}
use lib.ListN.{length-set}
use Rattle.stages.proofs.SortedPageLaws.{sort-long, sort-written}
use Rattle.stages.proofs.sorted_pages.write_sorting.Goals as goal

-- `stages::sorted_pages::write_sorting` meets its contract: seven stores over the front. Assumes nothing.

pub put_float-requires : goal.put_float-requires
put_float-requires c = let l = c.requires.0 in simp length-set (omega arith)

pub bounds-figures-3 : goal.bounds-figures-3
bounds-figures-3 c = let l = c.requires.0 in let e = sort-long c.args.figures.now c.put_float.new.out _ _ c.put_float.ensures in omega arith

pub bounds-figures-4 : goal.bounds-figures-4
bounds-figures-4 c = let l = c.requires.0 in let e = sort-long c.args.figures.now c.put_float.new.out _ _ c.put_float.ensures in simp length-set (omega arith)

pub bounds-figures-5 : goal.bounds-figures-5
bounds-figures-5 c = let l = c.requires.0 in let e = sort-long c.args.figures.now c.put_float.new.out _ _ c.put_float.ensures in simp length-set (omega arith)

pub bounds-figures-6 : goal.bounds-figures-6
bounds-figures-6 c = let l = c.requires.0 in let e = sort-long c.args.figures.now c.put_float.new.out _ _ c.put_float.ensures in simp length-set (omega arith)

pub returns : goal.returns
returns c = let f = c.args.found in sort-written f.unit f.ink f.horizontal f.vertical f.component_count c.args.figures.now c.put_float.new.out c.measured_word.result c.value.result c.requires.0 c.measured_word.ensures c.value.ensures c.put_float.ensures

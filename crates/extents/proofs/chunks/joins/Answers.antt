use native.Mathlib.Omega.{arith}
use mathlib.Core.Bool.{◌&&◌, ◌||◌}
use Rattle.std.proofs.Common.{rules, length, sym, ◌∙◌, ltb}
use Rattle.std.proofs.lemmas.List.{length_push}
use Rattle.std.proofs.lemmas.Slice.Zip.{zip_turn}
use Rattle.extents.proofs.BandLaws.{joins-more}
use Rattle.extents.proofs.chunks.joins.Goals as goal

pub loop-dot-preserved : goal.loop-dot-preserved
loop-dot-preserved c =
    let t = zip_turn c.args.dots.now c.args.behind.now c.loop-dot.yielded _ c.loop-dot.dot-iterator c.next.new.self c.next.result (search rules) (search rules) c.loop-dot.yielded_by _ c.in-Some.is c.next.ensures.steps in
    λ q k u. joins-more c.args.dots.now c.args.behind.now (length c.loop-dot.yielded) c.loop-dot.found c.loop-dot.invariant
    ((λ i. c.loop-dot.found || (ltb 0 (sym (t.2 0) i) && ltb 0 (sym (t.3 0) i))) ∙ q) k (let z = length_push c.loop-dot.yielded (c.in-Some.dot, c.in-Some.next) in omega arith)

use mathlib.Core.Path.{ap, ◌∙◌}
use native.Mathlib.Omega.{arith}
use mathlib.Core.List.{◌∷◌, ◌++◌}
use lib.ListN.{length}
use Rattle.levelling.specs.rules.Frames.{frame}
use Rattle.store.specs.rules.Written.{head_words}
use Rattle.memory.specs.rules.Words.{put_at}
use Rattle.segmenting.proofs.PutLaws.{part_length, put-part}
use Rattle.judging.proofs.PartLaws.{length_over}
use Rattle.store.proofs.leaves.write_leaf.Goals as goal

-- `store::leaves::write_leaf` meets its contract: the header, then the shears behind it and the plane. Assumes nothing.

pub move_page-requires : goal.move_page-requires
move_page-requires c =
    let p = c.requires in
    let n = p.room in
    record { sides = p.sides; slope = p.slope; frame_sides = p.frame_sides; room = (n.0, (let e = ap length c.write_head.ensures ∙ length_over (1 ∷ head_words c.args.a.page_w c.args.a.page_h c.args.a.w c.args.a.h c.args.a.capacity c.args.a.skew c.args.a.slope) c.args.store.now (let l = n.1 in omega arith) in let g = part_length 64 c.write_head.new.store in let l = n.1 in omega arith), n.2) }

pub returns : goal.returns
returns c =
    let e = c.move_page.ensures in
    let f = frame c.args.a.page_w c.args.a.page_h c.args.a.slope in
    (put-part 64 c.write_head.new.store (f.shear ++ f.shear_x) _ e.0 ∙ ap (put_at 64 (f.shear ++ f.shear_x)) c.write_head.ensures, e.1)

use borrow.Author.Rules.{rules}
use Prim.Native.Nat.{◌*◌}
use mathlib.Core.Path.{refl}
use Rattle.segmenting.proofs.ResultLaws.{rules-fit, graphics-fit, graphics-put}
use Rattle.segmenting.proofs.lists.write_box_lists.Goals as goal

pub write_rules-rules-requires : goal.write_rules-rules-requires
write_rules-rules-requires c =
    let a = c.args in let R = c.requires.0 in let K = c.requires.1 in let J = c.requires.2 in
    (search rules, search rules, search rules, search rules, rw (K.horizontal_is, K.vertical_is, K.sizes_is, K.kinds_is, J.rules_is) (rules-fit a.plan.width (a.plan.width * a.plan.height) a.plan.capacity a.found.horizontal a.found.vertical a.found.component_count a.words.now a.results.now R))

pub write_boxes-graphics-requires : goal.write_boxes-graphics-requires
write_boxes-graphics-requires c =
    let a = c.args in let R = c.requires.0 in let K = c.requires.1 in let J = c.requires.2 in
    (search rules, search rules, rw (K.sizes_is, K.kinds_is, J.rules_is, J.graphics_is) (graphics-fit a.plan.width (a.plan.width * a.plan.height) a.plan.capacity a.found.horizontal a.found.vertical a.found.component_count a.words.now a.results.now R c.write_rules-rules.new.out (rw (K.horizontal_is, K.vertical_is, K.sizes_is, K.kinds_is, J.rules_is) at c.write_rules-rules.ensures).1 _ refl))

pub returns : goal.returns
returns c =
    let a = c.args in let R = c.requires.0 in let K = c.requires.1 in let J = c.requires.2 in
    record { rules_is = (rw (K.horizontal_is, K.vertical_is, K.sizes_is, K.kinds_is, J.rules_is) at c.write_rules-rules.ensures).0; graphics_is = (rw (K.sizes_is, K.kinds_is, J.rules_is, J.graphics_is) at c.write_boxes-graphics.ensures).0; words = rw (J.rules_is, J.graphics_is) (graphics-put a.plan.width (a.plan.width * a.plan.height) a.plan.capacity a.found.horizontal a.found.vertical a.found.component_count a.words.now a.results.now R c.write_rules-rules.new.out (rw (K.horizontal_is, K.vertical_is, K.sizes_is, K.kinds_is, J.rules_is) at c.write_rules-rules.ensures).1 _ c.write_boxes-graphics.new.out refl (rw (K.sizes_is, K.kinds_is, J.rules_is, J.graphics_is) at c.write_boxes-graphics.ensures).1) }

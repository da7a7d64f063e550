use mathlib.Core.Path.{◌≡◌}
use borrow.Author.Rules.{rules}
use lib.IntN.{sub_ℕ}
use lib.ListN.{get_or}
use mir.Syntax.{w64}
use mir.Val.{to_z, of_z}
use Rattle.levelling.proofs.MappingLaws.{point-by}
use Rattle.levelling.proofs.mapping.to_page.Goals as goal

pub returns : goal.returns
returns c =
    let a = c.args in
    let dx : to_z w64 (of_z w64 c.difference.result) ≡ sub_ℕ a.x (get_or a.shear_x.now a.y 0) = search rules in
    let dy : to_z w64 (of_z w64 c.difference-2.result) ≡ sub_ℕ a.y (get_or a.shear.now c.onto_side-column.result 0) = search rules in
    λ page_h w h. point-by a.page_w page_h a.shear.now a.shear_x.now w h a.x a.y c.onto_side-column.result c.onto_side-column.ensures _ _ dx dy

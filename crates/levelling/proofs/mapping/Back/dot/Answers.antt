use Rattle.levelling.proofs.MappingLaws.{dot-by}
use Rattle.levelling.proofs.mapping.Back.dot.Goals as goal

pub returns : goal.returns
returns c =
    let b = c.args.self.now in
    λ w h. dot-by b.page_w b.page_h b.shear.now b.shear_x.now w h c.args.x c.args.y c.onto_side-column.result c.onto_side-column.ensures c.onto_side-row.result c.onto_side-row.ensures

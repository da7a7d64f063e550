use Rattle.segmenting.proofs.TextLaws.{text-order, text-number, text-ordered}
use Rattle.segmenting.proofs.text.order_labels.Goals as goal

pub order_lines-lines-requires : goal.order_lines-lines-requires
order_lines-lines-requires c = let a = c.requires in let K = a.9 in rw (K.horizontal_is, K.smears_is, K.glyphs_is) (text-order a.8 a.7)

pub number_labels-requires : goal.number_labels-requires
number_labels-requires c = let a = c.requires in let K = a.9 in rw (K.horizontal_is, K.vertical_is) (text-number a.8 a.7 (rw (K.horizontal_is, K.smears_is, K.glyphs_is) at c.order_lines-lines.ensures))

pub returns : goal.returns
returns c = let K = c.requires.9 in λ cs ks labels rs w h out e H. text-ordered H e (rw (K.horizontal_is, K.smears_is, K.glyphs_is) at c.order_lines-lines.ensures) (rw (K.horizontal_is, K.vertical_is) at c.number_labels.ensures)

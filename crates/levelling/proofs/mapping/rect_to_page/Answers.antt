use mathlib.Core.Path.{◌≡◌, ◌∙◌}
use Rattle.memory.specs.declared.rect.Rect.{Rect}
use Rattle.memory.specs.rules.Rects.{union}
use Rattle.levelling.specs.rules.Frames.{Frame, frame_of}
use Rattle.levelling.specs.stages.Corners.{dot_to_page}
use Rattle.levelling.specs.rules.Mapping.{rect_to_page}
use Rattle.levelling.proofs.MappingLaws.{rect-by-corners}
use Rattle.levelling.proofs.mapping.rect_to_page.Goals as goal

boxed : (f : Frame) (r a b c d upper lower all : Rect) → a ≡ dot_to_page f r.x0 r.y0 → b ≡ dot_to_page f r.x1 r.y0 → c ≡ dot_to_page f r.x0 r.y1 → d ≡ dot_to_page f r.x1 r.y1
    → upper ≡ union a b → lower ≡ union c d → all ≡ union upper lower → all ≡ rect_to_page f r
boxed f r a b c d upper lower all ea eb ec ed eu el e =
    e ∙ ((λ i. union ((eu ∙ (λ j. union (ea j) (eb j))) i) ((el ∙ (λ j. union (ec j) (ed j))) i)) ∙ rect-by-corners f r)

pub returns : goal.returns
returns c = let a = c.args in
    λ w h.
    boxed (frame_of a.page_w a.page_h a.shear.now a.shear_x.now w h) a.r c.dot.result c.dot-2.result c.dot-3.result c.dot-4.result c.union-above.result c.union-below.result c.union.result
    (c.dot.ensures w h) (c.dot-2.ensures w h) (c.dot-3.ensures w h) (c.dot-4.ensures w h) c.union-above.ensures c.union-below.ensures c.union.ensures

use mathlib.Core.Path.{ap, ◌∙◌}
use Rattle.memory.specs.declared.rect.Rect.{Rect}
use Rattle.stages.specs.rules.Levels.{corner_word}
use Rattle.stages.proofs.levels.novlizeb_rect_to_page_end.Goals as goal

-- `stages::levels::novlizeb_rect_to_page_end` promises a corner of what `page_rect` does. Assumes nothing.

pub returns : goal.returns
returns c = c.corner.ensures ∙ ap (λ (r : Rect). corner_word r.x1 r.y1) c.page_rect-b.ensures

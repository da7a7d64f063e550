use mathlib.Core.Path.{ap, ◌∙◌}
use mathlib.Core.List.{List}
use Prim.Native.Nat.{ℕ}
use Rattle.memory.proofs.PartLaws.{tail-part}
use Rattle.grouping.specs.rules.Columns.{columns_of}
use Rattle.grouping.specs.stages.LineBoxes.{line_boxes}
use Rattle.grouping.proofs.CoverWords.{columns-right, columns-written}
use Rattle.grouping.proofs.column.columns.Goals as goal

pub returns : goal.returns
returns c = columns-written _ _ _ _ _
    (columns-right c.args.sheet c.args.unit c.args.w _ c.fill_cover-busiest.new.scratch c.fill_cover-busiest.result c.round_to_u32-gap.result c.fill_cover-busiest.ensures.0 c.round_to_u32-gap.ensures c.fill_cover-busiest.ensures.1
    ∙ ap (λ (z : List ℕ). columns_of c.args.sheet c.args.unit c.args.w (line_boxes z c.args.n)) (tail-part c.args.lines c.args.results.now))
    c.write_columns.ensures

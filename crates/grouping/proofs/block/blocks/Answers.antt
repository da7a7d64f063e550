use mathlib.Core.Path.{◌∙◌, ap}
use Rattle.grouping.specs.rules.Blocks.{block_number, block_firsts}
use Rattle.grouping.specs.stages.Numbering.{with_blocks}
use Rattle.grouping.specs.stages.LineBoxes.{line_boxes}
use Rattle.grouping.proofs.NumberLaws.{blocks-same}
use Rattle.grouping.proofs.TogetherLaws.{block-low, block-idem}
use native.Mathlib.Omega.{arith}
use Rattle.grouping.proofs.block.blocks.Goals as goal

pub write_blocks-count-requires : goal.write_blocks-count-requires
write_blocks-count-requires c =
    let a = c.args in
    let g = c.requires in
    let ls = line_boxes a.words.now a.n in (
      (g.0.w, a.h, g.0.lines),
      g.0.few,
      omega (arith, g.0.parents, c.number_lines.auto.scratch),
      g.1,
      g.2,
      (block_firsts a.sheet ls, block-low a.sheet ls, block-idem a.sheet ls, c.number_lines.ensures),
    )

pub returns : goal.returns
returns c =
    let a = c.args in
    let ls = line_boxes a.words.now a.n in
    let numbers = c.number_lines.ensures in
    let e = c.write_blocks-count.ensures (block_firsts a.sheet ls) (block-low a.sheet ls) (block-idem a.sheet ls) numbers in (
      e.0,
      c.write_numbers.ensures
          ∙ (blocks-same _ (block_number (block_firsts a.sheet ls)) a.n _ numbers
          ∙ ap (with_blocks (block_number (block_firsts a.sheet ls)) a.n) e.1),
    )

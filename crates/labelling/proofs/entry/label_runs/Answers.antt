use native.Mathlib.Omega.{arith}
use Rattle.labelling.proofs.StageLaws.{stage-extract, stage-number, stage-many, stage-asks, stage-done, stage-room}
use Rattle.labelling.proofs.entry.label_runs.Goals as goal

pub overflow_mul-parents : goal.overflow_mul-parents
overflow_mul-parents c = let p = c.requires.dots in omega arith

pub overflow_mul-parents-2 : goal.overflow_mul-parents-2
overflow_mul-parents-2 c = let p = c.requires.dots in omega arith

pub extract_linked-runs-requires : goal.extract_linked-runs-requires
extract_linked-runs-requires c = stage-extract c.requires

pub offset_bounds-words-parents : goal.offset_bounds-words-parents
offset_bounds-words-parents c = let p = c.requires.dots in omega arith

pub slice_bounds-number_runs-count : goal.slice_bounds-number_runs-count
slice_bounds-number_runs-count c = stage-room c.requires c.extract_linked-runs.ensures

pub slice_bounds-number_runs-start : goal.slice_bounds-number_runs-start
slice_bounds-number_runs-start c = stage-room c.requires c.extract_linked-runs.ensures

pub number_runs-count-requires : goal.number_runs-count-requires
number_runs-count-requires c = stage-number c.requires c.extract_linked-runs.ensures

pub returns-then-capacity-count : goal.returns-then-capacity-count
returns-then-capacity-count c = stage-many c.requires c.extract_linked-runs.ensures c.number_runs-count.ensures c.if-capacity-count.true

pub paint_runs-requires : goal.paint_runs-requires
paint_runs-requires c = stage-asks c.requires c.extract_linked-runs.ensures c.number_runs-count.ensures c.if-capacity-count.false

pub overflow_cast-result : goal.overflow_cast-result
overflow_cast-result c = omega (arith, c.requires.few, c.if-capacity-count.false)

pub returns : goal.returns
returns c = stage-done c.requires c.extract_linked-runs.ensures c.number_runs-count.ensures c.if-capacity-count.false c.paint_runs.ensures.0 c.paint_runs.ensures.1

use Prim.Native.Nat.{◌+◌, ◌*◌, ◌<◌}
use mathlib.Core.Path.{subst}
use lib.ListN.{get_or, take}
use Rattle.memory.proofs.TableLaws.{length-table}
use Rattle.sorting.specs.stages.Counts.{CountsOf}
use Rattle.smoothing.specs.rules.LineRecords.{line_words}
use Rattle.memory.specs.rules.Records.{fields}
use Rattle.memory.proofs.ListLaws.{each-table}
use Rattle.grouping.proofs.MedianWords.{counts_of}
use native.Mathlib.Omega.{arith}
use Rattle.grouping.proofs.summary.median_glyph_height.Goals as goal

pub returns : goal.returns
returns c = let l = fields line_words 6 c.args.lines.now c.args.n in c.median_of_counts.ensures l (subst (λ k. CountsOf (take (c.args.h + 1) c.count_field.new.table) k l) (length-table (λ i. get_or c.args.lines.now (i * 8 + 6) 0) c.args.n) (counts_of l c.args.table.now c.count_field.new.table (c.args.h + 1) (each-table (λ a. a < c.args.h + 1) (λ i. get_or c.args.lines.now (i * 8 + 6) 0) c.args.n (λ i k. let e = c.requires.4 i k in omega arith)) c.count_field.ensures))

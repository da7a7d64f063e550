use mathlib.Core.Path.{ap, ◌∙◌}
use Prim.Native.Nat.{◌+◌, ◌-◌}
use lib.ListN.{take, drop}
use Rattle.memory.specs.rules.Lists.{count_if}
use Rattle.memory.specs.rules.Masks.{is_ink}
use Rattle.labelling.proofs.ExtractLaws.{chunk-still, chunk-long}
use Rattle.labelling.proofs.runs.Row.scan_four_chunks.Goals as goal

pub returns-then-ink_count-at : goal.returns-then-ink_count-at
returns-then-ink_count-at c = chunk-still 128 c.args.self.dots.now c.args.from c.args.self.base c.args.words.now c.args.at c.ink_count.result c.requires (c.ink_count.ensures ∙ ap (count_if (is_ink (take (c.args.from + 128 - c.args.from) (drop c.args.from c.args.self.dots.now)))) (chunk-long 128 c.args.self.dots.now c.args.from c.requires.high)) c.if-ink_count-at.true

use mathlib.Core.Path.{sym, ap, ◌∙◌}
use Rattle.memory.specs.rules.Lists.{count_if}
use Rattle.memory.specs.rules.Masks.{is_ink}
use Rattle.labelling.proofs.MarkedLaws.{passing-blank}
use Rattle.labelling.proofs.marked.count_chunk.Goals as goal

pub returns-then-ink_count-eq0 : goal.returns-then-ink_count-eq0
returns-then-ink_count-eq0 c = passing-blank c.args.test c.args.ink.now c.args.marks.now 32 (sym (c.ink_count.ensures ∙ ap (count_if (is_ink c.args.ink.now)) c.requires.0) ∙ c.if-ink_count-eq0.true)

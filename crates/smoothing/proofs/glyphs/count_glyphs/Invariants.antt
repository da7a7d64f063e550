use Rattle.memory.specs.stages.Stored.{Stored}
use Rattle.smoothing.proofs.LabelCounts.{label_count}
use Rattle.smoothing.proofs.glyphs.count_glyphs.Given as goal

abbrev pub invariant-loop-k : goal.invariant-loop-k
invariant-loop-k l = Stored (label_count l.initial.words l.kinds l.k) l.glyphs l.smears l.initial.words l.words

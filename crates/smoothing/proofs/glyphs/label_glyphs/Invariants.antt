use Prim.Native.Nat.{◌+◌}
use lib.ListN.{get_or}
use Rattle.smoothing.specs.stages.LineWords.{kind_word, first_number}
use Rattle.memory.specs.stages.Stored.{Stored}
use Rattle.smoothing.proofs.glyphs.label_glyphs.Given as goal

abbrev pub invariant-loop-k : goal.invariant-loop-k
invariant-loop-k l = Stored (λ i. kind_word (get_or l.initial.words (l.kinds + i) 0) (first_number l.initial.words l.firsts l.numbers i)) l.kinds l.k l.initial.words l.words

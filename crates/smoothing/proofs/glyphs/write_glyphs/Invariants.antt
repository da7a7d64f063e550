use mathlib.Core.Path.{◌≡◌}
use lib.ListN.{length}
use Rattle.smoothing.specs.stages.LineWords.{WrittenGlyphs}
use Rattle.smoothing.proofs.glyphs.write_glyphs.Given as goal

abbrev pub invariant-loop-k : goal.invariant-loop-k
invariant-loop-k l = (length l.out ≡ length l.initial.out) × WrittenGlyphs l.sizes l.kinds l.k l.numbers l.words l.initial.out l.out l.n

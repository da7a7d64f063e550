use mathlib.Core.Path.{◌≡◌}
use native.Mathlib.Omega.{arith}
use borrow.Author.Tests.{ne_eqb}
use lib.ListN.{get_or}
use Rattle.smoothing.specs.stages.LineWords.{kind_word}
use Rattle.smoothing.proofs.glyphs.labelled_kind.Goals as goal

pub returns-then-words-kind-ne-GLYPH : goal.returns-then-words-kind-ne-GLYPH
unfolding kind_word
returns-then-words-kind-ne-GLYPH c = rw (ne_eqb _ _ c.if-words-kind-ne-GLYPH.true)

pub returns : goal.returns
unfolding kind_word
returns c = let e : get_or c.args.words.now c.args.kind 0 ≡ 4 = omega arith in rw e

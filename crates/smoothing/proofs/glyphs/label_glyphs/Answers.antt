use Prim.Native.Nat.{◌+◌}
use mathlib.Core.Path.{refl, ◌∙◌}
use native.Mathlib.Omega.{arith}
use Rattle.memory.proofs.StoredLaws.{stored_more}
use Rattle.smoothing.proofs.LabelCounts.{kept_word}
use Rattle.smoothing.proofs.glyphs.label_glyphs.Goals as goal

pub loop-k-preserved : goal.loop-k-preserved
loop-k-preserved c =
    let s = c.args.words.now in stored_more c.loop-k.invariant (c.args.kinds + c.loop-k.k) c.labelled_kind.result refl (omega (arith, c.requires.behind, c.requires.room))
    (c.labelled_kind.ensures ∙ kept_word c.args.kinds c.args.count c.args.firsts c.args.numbers c.loop-k.k s c.loop-k.words c.requires (omega arith) c.loop-k.invariant)

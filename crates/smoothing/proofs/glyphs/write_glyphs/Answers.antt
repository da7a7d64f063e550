use mathlib.Core.Path.{refl, ◌∙◌}
use native.Mathlib.Omega.{arith}
use Rattle.smoothing.proofs.GlyphLaws.{glyphs-none, glyphs-few, glyphs-more}
use Rattle.smoothing.proofs.glyphs.write_glyphs.Goals as goal

pub loop-k-init : goal.loop-k-init
loop-k-init c = (refl, glyphs-none c.args.sizes c.args.kinds c.args.numbers c.args.words.now c.args.out.now)

pub write_glyph-n-requires : goal.write_glyph-n-requires
write_glyph-n-requires c =
    let f = glyphs-few c.args.sizes c.args.kinds c.args.numbers c.args.words.now c.loop-k.k c.loop-k.n c.args.out.now c.loop-k.out c.loop-k.invariant.1 in
    (omega (arith, c.requires.sizes_room), omega (arith, c.requires.kinds_room), c.requires.lines c.loop-k.k (omega arith), omega (arith, c.requires.room, c.loop-k.invariant.0))

pub loop-k-preserved : goal.loop-k-preserved
loop-k-preserved c =
    let f = glyphs-few c.args.sizes c.args.kinds c.args.numbers c.args.words.now c.loop-k.k c.loop-k.n c.args.out.now c.loop-k.out c.loop-k.invariant.1 in
    (c.write_glyph-n.auto.out ∙ c.loop-k.invariant.0, glyphs-more c.args.sizes c.args.kinds c.args.numbers c.args.words.now c.loop-k.k c.loop-k.n c.args.out.now c.loop-k.out c.loop-k.invariant.1 c.write_glyph-n.result c.write_glyph-n.new.out (omega (arith, c.requires.room)) c.write_glyph-n.ensures)

use mathlib.Core.Path.{refl, ◌≡◌}
use native.Mathlib.Omega.{arith}
use Rattle.memory.proofs.StoredLaws.{stored-fill, stored-again}
use Rattle.smoothing.proofs.LabelCounts.{labels-none, count_room, counts_all, label-room, label-step}
use Rattle.smoothing.proofs.glyphs.count_glyphs.Goals as goal

pub loop-k-init : goal.loop-k-init
loop-k-init c = labels-none _ _ c.args.kinds c.args.glyphs c.args.smears (stored-again (stored-fill 0 c.args.glyphs c.args.smears c.args.words.now _ c.requires.room c.fill.ensures))

pub count_label-requires : goal.count_label-requires
count_label-requires c = label-room c.args.kinds c.args.count c.args.glyphs c.args.smears c.loop-k.k _ c.loop-k.words (count_room c.args.kinds c.args.count c.args.glyphs c.args.smears c.args.words.now _ (λ t. 0) c.requires (stored-fill 0 c.args.glyphs c.args.smears c.args.words.now _ c.requires.room c.fill.ensures)) (omega arith) c.loop-k.invariant _ refl

pub loop-k-preserved : goal.loop-k-preserved
loop-k-preserved c = label-step c.args.kinds c.args.count c.args.glyphs c.args.smears c.loop-k.k _ c.loop-k.words (count_room c.args.kinds c.args.count c.args.glyphs c.args.smears c.args.words.now _ (λ t. 0) c.requires (stored-fill 0 c.args.glyphs c.args.smears c.args.words.now _ c.requires.room c.fill.ensures)) (omega arith) c.loop-k.invariant _ refl c.count_label.new.words c.count_label.ensures.0 c.count_label.ensures.1

pub returns : goal.returns
returns c = counts_all c.args.kinds c.args.count c.args.glyphs c.args.smears c.args.words.now _ (λ t. 0) c.requires (stored-fill 0 c.args.glyphs c.args.smears c.args.words.now _ c.requires.room c.fill.ensures) c.loop-k.words c.loop-k.k (let e : c.loop-k.k ≡ c.args.count = omega arith in e) c.loop-k.invariant

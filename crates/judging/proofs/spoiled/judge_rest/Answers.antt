use mathlib.Core.Path.{refl}
use Rattle.memory.specs.rules.Refusals.{refuse_if}
use native.Mathlib.Omega.{arith}
use Rattle.judging.proofs.LimitLaws.{point-sides, point-within, point-few, point-held}
use Rattle.judging.proofs.SpoiledLaws.{rest-lacking, rest-room, rest-judged}
use Rattle.judging.proofs.spoiled.judge_rest.Goals as goal

-- `judging::spoiled::judge_rest` meets its contract. Assumes nothing.

pub frame_size-size-requires : goal.frame_size-size-requires
frame_size-size-requires c = record { sides = point-sides c.args.store.now c.requires.1 c.float_at-slope.result c.float_at-slope.ensures; slope = point-within c.args.store.now c.requires.1 c.float_at-slope.result c.float_at-slope.ensures }

pub returns-then-store-words : goal.returns-then-store-words
returns-then-store-words c = rest-lacking c.args.store.now c.args.ink.now c.args.kinds.now c.args.lacking c.float_at-slope.result c.float_at-slope.ensures c.frame_size-size.result.w c.frame_size-size.result.h c.frame_size-size.ensures.sides.0 c.frame_size-size.ensures.sides.1 c.area-dots.result c.area-dots.ensures c.store_words-words.result c.store_words-words.ensures c.if-store-words.true

pub frame_differs-moved-requires : goal.frame_differs-moved-requires
frame_differs-moved-requires c =
    let r = rest-room c.args.store.now c.args.ink.now c.args.kinds.now c.args.lacking c.float_at-slope.result c.float_at-slope.ensures c.frame_size-size.result.w c.frame_size-size.result.h c.frame_size-size.ensures.sides.0 c.frame_size-size.ensures.sides.1 c.area-dots.result c.area-dots.ensures c.store_words-words.result c.store_words-words.ensures c.if-store-words.false in
    record { sides = point-sides c.args.store.now c.requires.1 c.float_at-slope.result c.float_at-slope.ensures; slope = point-within c.args.store.now c.requires.1 c.float_at-slope.result c.float_at-slope.ensures; frame_sides = (c.frame_size-size.ensures.sides.0, c.frame_size-size.ensures.sides.1, omega (arith, r.0, c.store_words-words.ensures)); as_held = point-held c.args.store.now c.requires.1 c.float_at-slope.result c.float_at-slope.ensures }

pub words_ok-right-requires : goal.words_ok-right-requires
words_ok-right-requires c =
    let r = rest-room c.args.store.now c.args.ink.now c.args.kinds.now c.args.lacking c.float_at-slope.result c.float_at-slope.ensures c.frame_size-size.result.w c.frame_size-size.result.h c.frame_size-size.ensures.sides.0 c.frame_size-size.ensures.sides.1 c.area-dots.result c.area-dots.ensures c.store_words-words.result c.store_words-words.ensures c.if-store-words.false in
    ((point-sides c.args.store.now c.requires.1 c.float_at-slope.result c.float_at-slope.ensures).w_fits, c.frame_size-size.ensures.limits.0, c.frame_size-size.ensures.limits.1, point-few c.args.store.now c.requires.1 c.float_at-slope.result c.float_at-slope.ensures, omega (arith, r.0, c.store_words-words.ensures))

pub planes_ok-agree-requires : goal.planes_ok-agree-requires
planes_ok-agree-requires c =
    let r = rest-room c.args.store.now c.args.ink.now c.args.kinds.now c.args.lacking c.float_at-slope.result c.float_at-slope.ensures c.frame_size-size.result.w c.frame_size-size.result.h c.frame_size-size.ensures.sides.0 c.frame_size-size.ensures.sides.1 c.area-dots.result c.area-dots.ensures c.store_words-words.result c.store_words-words.ensures c.if-store-words.false in
    (r.1, r.2)

pub returns-then-moved-right : goal.returns-then-moved-right
unfolding refuse_if
returns-then-moved-right c = rest-judged c.args.store.now c.args.ink.now c.args.kinds.now c.args.lacking c.float_at-slope.result c.float_at-slope.ensures c.frame_size-size.result.w c.frame_size-size.result.h c.frame_size-size.ensures.sides.0 c.frame_size-size.ensures.sides.1 c.area-dots.result c.area-dots.ensures c.store_words-words.result c.store_words-words.ensures c.if-store-words.false _ c.frame_differs-moved.result c.words_ok-right.result c.planes_ok-agree.result (rw c.if-moved-right.true refl) c.frame_differs-moved.ensures c.words_ok-right.ensures c.planes_ok-agree.ensures

pub returns : goal.returns
unfolding refuse_if
returns c = rest-judged c.args.store.now c.args.ink.now c.args.kinds.now c.args.lacking c.float_at-slope.result c.float_at-slope.ensures c.frame_size-size.result.w c.frame_size-size.result.h c.frame_size-size.ensures.sides.0 c.frame_size-size.ensures.sides.1 c.area-dots.result c.area-dots.ensures c.store_words-words.result c.store_words-words.ensures c.if-store-words.false _ c.frame_differs-moved.result c.words_ok-right.result c.planes_ok-agree.result (rw c.if-moved-right.false refl) c.frame_differs-moved.ensures c.words_ok-right.ensures c.planes_ok-agree.ensures

use mathlib.Core.Path.{refl}
use Rattle.std.proofs.lemmas.Result.{err_from_is_err_and}
use Rattle.memory.specs.rules.Refusals.{refuse_if}
use Rattle.memory.proofs.RefusalLaws.{number_positive}
use native.Mathlib.Omega.{arith}
use Rattle.judging.proofs.LimitLaws.{point-sides, point-within, point-held}
use Rattle.judging.proofs.SegmentLaws.{behind-short, behind-dots, behind-lent, behind-ink, behind-room, behind-judged}
use Rattle.judging.proofs.segments.judge_behind.Goals as goal

-- `judging::segments::judge_behind` meets its contract: the frame, then what hangs on it. Assumes nothing.

pub frame_size-size-requires : goal.frame_size-size-requires
frame_size-size-requires c = record { sides = point-sides c.args.store.now c.requires.1 _ c.float_at-slope.ensures; slope = point-within c.args.store.now c.requires.1 _ c.float_at-slope.ensures }

pub returns-then-store-store_words : goal.returns-then-store-store_words
returns-then-store-store_words c = behind-short c.args.store.now c.args.ink.now c.args.kinds c.args.scratch c.requires.1 _ c.float_at-slope.ensures _ _ c.frame_size-size.ensures.sides.0 c.frame_size-size.ensures.sides.1 _ c.store_words.ensures c.if-store-store_words.true

pub judge_lengths-requires : goal.judge_lengths-requires
judge_lengths-requires c = omega (arith, behind-dots c.args.store.now c.args.ink.now c.args.kinds c.args.scratch c.requires.1 _ c.float_at-slope.ensures _ _ c.frame_size-size.ensures.sides.0 c.frame_size-size.ensures.sides.1 _ c.store_words.ensures _ c.area-dots.ensures c.if-store-store_words.false c.frame_size-size.ensures.limits.0 c.frame_size-size.ensures.limits.1)

pub returns-in_err-judge_lengths : goal.returns-in_err-judge_lengths
returns-in_err-judge_lengths c =
    let p = err_from_is_err_and c.from_residual.result c.from_residual.ensures.1 in
    rw (p.1, p.2) (behind-lent c.args.store.now c.args.ink.now c.args.kinds c.args.scratch c.requires.1 _ c.float_at-slope.ensures _ _ c.frame_size-size.ensures.sides.0 c.frame_size-size.ensures.sides.1 _ c.store_words.ensures _ c.area-dots.ensures c.if-store-store_words.false _ c.in_err-judge_lengths.ensures (number_positive c.in_err-judge_lengths.field-0.0))

pub frame_differs-differs-requires : goal.frame_differs-differs-requires
frame_differs-differs-requires c =
    record { sides = point-sides c.args.store.now c.requires.1 _ c.float_at-slope.ensures; slope = point-within c.args.store.now c.requires.1 _ c.float_at-slope.ensures; frame_sides = (c.frame_size-size.ensures.sides.0, c.frame_size-size.ensures.sides.1, behind-room c.args.store.now c.args.ink.now c.args.kinds c.args.scratch c.requires.1 _ c.float_at-slope.ensures _ _ c.frame_size-size.ensures.sides.0 c.frame_size-size.ensures.sides.1 _ c.store_words.ensures _ c.area-dots.ensures c.if-store-store_words.false _ c.in_ok-judge_lengths.ensures); as_held = point-held c.args.store.now c.requires.1 _ c.float_at-slope.ensures }

pub ink_spoiled-requires : goal.ink_spoiled-requires
ink_spoiled-requires c = behind-ink c.args.store.now c.args.ink.now c.args.kinds c.args.scratch c.requires.1 _ c.float_at-slope.ensures _ _ c.frame_size-size.ensures.sides.0 c.frame_size-size.ensures.sides.1 _ c.store_words.ensures _ c.area-dots.ensures c.if-store-store_words.false _ c.in_ok-judge_lengths.ensures refl

pub returns-then-differs-ink_spoiled : goal.returns-then-differs-ink_spoiled
unfolding refuse_if
returns-then-differs-ink_spoiled c = behind-judged c.args.store.now c.args.ink.now c.args.kinds c.args.scratch c.requires.1 _ c.float_at-slope.ensures _ _ c.frame_size-size.ensures.sides.0 c.frame_size-size.ensures.sides.1 _ c.store_words.ensures _ c.area-dots.ensures c.if-store-store_words.false _ c.in_ok-judge_lengths.ensures refl _ _ _ (rw c.if-differs-ink_spoiled.true refl) c.frame_differs-differs.ensures c.ink_spoiled.ensures

pub returns : goal.returns
unfolding refuse_if
returns c = behind-judged c.args.store.now c.args.ink.now c.args.kinds c.args.scratch c.requires.1 _ c.float_at-slope.ensures _ _ c.frame_size-size.ensures.sides.0 c.frame_size-size.ensures.sides.1 _ c.store_words.ensures _ c.area-dots.ensures c.if-store-store_words.false _ c.in_ok-judge_lengths.ensures refl _ _ _ (rw c.if-differs-ink_spoiled.false refl) c.frame_differs-differs.ensures c.ink_spoiled.ensures

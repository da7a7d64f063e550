use Rattle.judging.proofs.LimitLaws.{point-sides, point-within, point-held}
use mathlib.Core.Path.{refl, sym, ap, ◌∙◌}
use Rattle.memory.specs.rules.Refusals.{refuse_if}
use Rattle.levelling.specs.rules.Frames.{Frame}
use Rattle.judging.proofs.LevelLaws.{frame-by-words, frame-short, frame-room, frame-judged}
use Rattle.judging.proofs.levels.judge_frame.Goals as goal

-- `judging::levels::judge_frame` meets its contract: the frame, then what hangs on it. Assumes nothing.

pub returns-then-store-store_words : goal.returns-then-store-store_words
returns-then-store-store_words c = frame-short c.args.store.now _ _ c.requires.2 c.requires.3 _ c.store_words.ensures _ _ c.if-store-store_words.true

pub frame_differs-requires : goal.frame_differs-requires
frame_differs-requires c =
    let e = sym (frame-by-words c.args.store.now _ c.float_at-slope.ensures) in
    record { sides = point-sides c.args.store.now c.requires.1 _ c.float_at-slope.ensures; slope = point-within c.args.store.now c.requires.1 _ c.float_at-slope.ensures; frame_sides = (c.requires.2 ∙ ap (λ (z : Frame). z.w) e, c.requires.3 ∙ ap (λ (z : Frame). z.h) e, frame-room c.args.store.now _ _ c.requires.2 c.requires.3 _ c.store_words.ensures c.if-store-store_words.false); as_held = point-held c.args.store.now c.requires.1 _ c.float_at-slope.ensures }

pub returns-then-lacking : goal.returns-then-lacking
unfolding refuse_if
returns-then-lacking c = frame-judged c.args.store.now _ _ c.requires.2 c.requires.3 _ c.store_words.ensures c.args.lacking c.args.bad _ c.if-store-store_words.false (rw c.if-lacking.true refl)

pub returns-then-frame_differs : goal.returns-then-frame_differs
unfolding refuse_if
returns-then-frame_differs c = let d = sym c.frame_differs.ensures ∙ c.if-frame_differs.true in frame-judged c.args.store.now _ _ c.requires.2 c.requires.3 _ c.store_words.ensures c.args.lacking c.args.bad _ c.if-store-store_words.false (rw (c.if-lacking.false, d) refl)

pub returns-then-bad : goal.returns-then-bad
unfolding refuse_if
returns-then-bad c = let d = sym c.frame_differs.ensures ∙ c.if-frame_differs.false in frame-judged c.args.store.now _ _ c.requires.2 c.requires.3 _ c.store_words.ensures c.args.lacking c.args.bad _ c.if-store-store_words.false (rw (c.if-lacking.false, d, c.if-bad.true) refl)

pub returns : goal.returns
unfolding refuse_if
returns c = let d = sym c.frame_differs.ensures ∙ c.if-frame_differs.false in frame-judged c.args.store.now _ _ c.requires.2 c.requires.3 _ c.store_words.ensures c.args.lacking c.args.bad _ c.if-store-store_words.false (rw (c.if-lacking.false, d, c.if-bad.false) refl)

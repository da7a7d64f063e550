use mathlib.Core.Path.{◌≡◌, refl}
use native.Mathlib.Omega.{arith}
use lib.ListN.{length}
use Rattle.judging.proofs.SegmentLaws.{segmentable}
use Rattle.store.proofs.SegmentedLaws.{segment-room, plane-room, start_fits, page-done, past-kept}
use Rattle.std.specs.Prelude.{Ok, Err}
use Rattle.std.proofs.lemmas.Result.{err_from_is_err_and}
use Rattle.memory.specs.rules.Refusals.{number}
use Rattle.store.proofs.layouts.segment_held.Goals as goal

-- `store::layouts::segment_held` meets its contract: the lists, then the header. Assumes nothing.

pub segment_parts-requires : goal.segment_parts-requires
segment_parts-requires c =
    let a = c.args in
    let S = segmentable a.sheet a.store.now a.ink.now (length a.kinds.now) (length a.scratch.now) c.requires in
    let p = plane-room a.sheet a.store.now a.ink.now _ _ S c.word_at-page_w.result c.word_at-w.result c.word_at-h.result c.word_at-capacity.result c.word_at-page_w.ensures c.word_at-w.ensures c.word_at-h.ensures c.word_at-capacity.ensures c.lists_at-start.result c.lists_at-start.ensures in
    record { segment_room = segment-room a.sheet a.store.now a.ink.now _ _ S c.word_at-page_w.result c.word_at-w.result c.word_at-h.result c.word_at-capacity.result c.word_at-page_w.ensures c.word_at-w.ensures c.word_at-h.ensures c.word_at-capacity.ensures c.lists_at-start.result c.lists_at-start.ensures a.scratch.now refl; lengths = (p.0, p.2, start_fits a.sheet a.store.now a.ink.now _ _ S c.word_at-page_w.result c.word_at-w.result c.word_at-h.result c.word_at-capacity.result c.word_at-page_w.ensures c.word_at-w.ensures c.word_at-h.ensures c.word_at-capacity.ensures c.lists_at-start.result c.lists_at-start.ensures) }

pub returns-in_err-found : goal.returns-in_err-found
returns-in_err-found c =
    let a = c.args in
    let E = c.in_err-found.ensures in
    let p = err_from_is_err_and c.from_residual.result c.from_residual.ensures.1 in
    rw (p.1, p.2) (
      page-done a.sheet a.store.now a.ink.now a.kinds.now (length a.scratch.now) c.requires c.word_at-page_w.result c.word_at-w.result c.word_at-h.result c.word_at-capacity.result c.word_at-page_w.ensures c.word_at-w.ensures c.word_at-h.ensures c.word_at-capacity.ensures c.lists_at-start.result c.lists_at-start.ensures (Err c.in_err-found.field-0.0) (number c.in_err-found.field-0.0) c.segment_parts.new.store c.segment_parts.new.kinds c.segment_parts.new.store E.0 E.1 refl refl,
      past-kept a.sheet a.store.now a.ink.now a.kinds.now (length a.scratch.now) c.requires c.word_at-page_w.result c.word_at-w.result c.word_at-h.result c.word_at-capacity.result c.word_at-page_w.ensures c.word_at-w.ensures c.word_at-h.ensures c.word_at-capacity.ensures c.lists_at-start.result c.lists_at-start.ensures a.scratch.now c.segment_parts.new.scratch E.2,
    )

pub write_head-requires : goal.write_head-requires
write_head-requires c =
    let a = c.args in
    let l = (segmentable a.sheet a.store.now a.ink.now (length a.kinds.now) (length a.scratch.now) c.requires).words in
    let k : length c.segment_parts.new.store ≡ length a.store.now = c.segment_parts.auto.store in
    omega (arith, l, k)

pub returns : goal.returns
returns c =
    let a = c.args in
    let E = c.in_ok-found.ensures in (
      page-done a.sheet a.store.now a.ink.now a.kinds.now (length a.scratch.now) c.requires c.word_at-page_w.result c.word_at-w.result c.word_at-h.result c.word_at-capacity.result c.word_at-page_w.ensures c.word_at-w.ensures c.word_at-h.ensures c.word_at-capacity.ensures c.lists_at-start.result c.lists_at-start.ensures (Ok c.in_ok-found.found) 0 c.segment_parts.new.store c.segment_parts.new.kinds c.write_head.new.store E.0 E.1 refl c.write_head.ensures,
      past-kept a.sheet a.store.now a.ink.now a.kinds.now (length a.scratch.now) c.requires c.word_at-page_w.result c.word_at-w.result c.word_at-h.result c.word_at-capacity.result c.word_at-page_w.ensures c.word_at-w.ensures c.word_at-h.ensures c.word_at-capacity.ensures c.lists_at-start.result c.lists_at-start.ensures a.scratch.now c.segment_parts.new.scratch E.2,
    )

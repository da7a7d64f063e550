use Rattle.judging.proofs.ResultLaws.{places-are, lists-by}
use native.Mathlib.Omega.{arith}
use Rattle.judging.proofs.results.lists_ok.Goals as goal

-- `judging::results::lists_ok` meets its contract. Assumes nothing.

pub overflow_add-rules : goal.overflow_add-rules
overflow_add-rules c = let q = places-are _ _ _ c.result_places-places.ensures in omega (arith, q.0, c.requires.room)

pub overflow_add-graphics : goal.overflow_add-graphics
overflow_add-graphics c = let q = places-are _ _ _ c.result_places-places.ensures in omega (arith, q.1, c.requires.room)

pub overflow_add-glyphs : goal.overflow_add-glyphs
overflow_add-glyphs c = let q = places-are _ _ _ c.result_places-places.ensures in omega (arith, q.2, c.requires.room)

pub overflow_add-lines : goal.overflow_add-lines
overflow_add-lines c = let q = places-are _ _ _ c.result_places-places.ensures in omega (arith, q.3, c.requires.room)

pub overflow_add-blocks : goal.overflow_add-blocks
overflow_add-blocks c = let q = places-are _ _ _ c.result_places-places.ensures in omega (arith, q.4, c.requires.room)

pub fields_below-a-requires : goal.fields_below-a-requires
fields_below-a-requires c =
    let q = places-are _ _ _ c.result_places-places.ensures in
    let p = c.requires in
    (omega (arith, q.3, p.room.0, p.counts.3), omega arith)

pub fields_below-b-requires : goal.fields_below-b-requires
fields_below-b-requires c =
    let q = places-are _ _ _ c.result_places-places.ensures in
    let p = c.requires in
    (omega (arith, q.4, p.room.0, p.counts.4), omega arith)

pub boxes_ok-c-requires : goal.boxes_ok-c-requires
boxes_ok-c-requires c =
    let q = places-are _ _ _ c.result_places-places.ensures in
    let p = c.requires in
    (omega (arith, q.0, p.room.0, p.counts.0), omega arith)

pub boxes_ok-d-requires : goal.boxes_ok-d-requires
boxes_ok-d-requires c =
    let q = places-are _ _ _ c.result_places-places.ensures in
    let p = c.requires in
    (omega (arith, q.1, p.room.0, p.counts.1), omega arith)

pub boxes_ok-e-requires : goal.boxes_ok-e-requires
boxes_ok-e-requires c =
    let q = places-are _ _ _ c.result_places-places.ensures in
    let p = c.requires in
    (omega (arith, q.2, p.room.0, p.counts.2), omega arith)

pub boxes_ok-f-requires : goal.boxes_ok-f-requires
boxes_ok-f-requires c =
    let q = places-are _ _ _ c.result_places-places.ensures in
    let p = c.requires in
    (omega (arith, q.3, p.room.0, p.counts.3), omega arith)

pub boxes_ok-g-requires : goal.boxes_ok-g-requires
boxes_ok-g-requires c =
    let q = places-are _ _ _ c.result_places-places.ensures in
    let p = c.requires in
    (omega (arith, q.4, p.room.0, p.counts.4), omega arith)

pub fields_marked-i-requires : goal.fields_marked-i-requires
fields_marked-i-requires c =
    let q = places-are _ _ _ c.result_places-places.ensures in
    let p = c.requires in
    (omega (arith, q.2, p.room.0, p.counts.2), omega arith)

pub fields_below-j-requires : goal.fields_below-j-requires
fields_below-j-requires c =
    let q = places-are _ _ _ c.result_places-places.ensures in
    let p = c.requires in
    (omega (arith, q.3, p.room.0, p.counts.3), omega arith)

pub returns : goal.returns
returns c =
    let a = c.args in
    lists-by a.w a.h a.store.now a.at a.capacity a.n.rules a.n.graphics a.n.glyphs a.n.lines a.n.blocks c.result_places-places.result c.result_places-places.ensures _ _ _ _ _ _ _ _ _
    c.fields_below-a.ensures c.fields_below-b.ensures c.boxes_ok-c.ensures c.boxes_ok-d.ensures c.boxes_ok-e.ensures c.boxes_ok-f.ensures c.boxes_ok-g.ensures c.fields_marked-i.ensures c.fields_below-j.ensures

use mathlib.Core.Path.{refl}
use native.Mathlib.Omega.{arith}
use lib.ListN.{length}
use Rattle.judging.specs.rules.Header.{part}
use Rattle.store.proofs.SheetReads.{lists-begin, lists-in, sheet-room, sheet-written}
use Rattle.store.proofs.sheets.put_sheet.Goals as goal

pub offset_bounds-store-at : goal.offset_bounds-store-at
offset_bounds-store-at c =
    let s = c.args.store.now in
    omega (arith, lists-begin s c.requires.lists c.lists_at-at.result _ _ c.result_places-places.result c.lists_at-at.ensures refl refl c.result_places-places.ensures)

pub slice_bounds-write_sheet_text-count-2 : goal.slice_bounds-write_sheet_text-count-2
slice_bounds-write_sheet_text-count-2 c =
    let s = c.args.store.now in
    omega (arith, lists-begin s c.requires.lists c.lists_at-at.result _ _ c.result_places-places.result c.lists_at-at.ensures refl refl c.result_places-places.ensures)

pub slice_bounds-write_sheet_text-start-2 : goal.slice_bounds-write_sheet_text-start-2
slice_bounds-write_sheet_text-start-2 c =
    let s = c.args.store.now in
    omega (arith, lists-begin s c.requires.lists c.lists_at-at.result _ _ c.result_places-places.result c.lists_at-at.ensures refl refl c.result_places-places.ensures)

pub slice_bounds-write_sheet_text-end-2 : goal.slice_bounds-write_sheet_text-end-2
slice_bounds-write_sheet_text-end-2 c =
    let s = c.args.store.now in
    omega (arith, lists-begin s c.requires.lists c.lists_at-at.result _ _ c.result_places-places.result c.lists_at-at.ensures refl refl c.result_places-places.ensures)

pub write_sheet_text-requires : goal.write_sheet_text-requires
unfolding part
write_sheet_text-requires c =
    let s = c.args.store.now in
    (lists-in s c.requires.lists c.lists_at-at.result _ _ c.result_places-places.result c.lists_at-at.ensures refl refl c.result_places-places.ensures, sheet-room s c.requires.lists (length c.args.out.now) c.requires.room)

pub returns : goal.returns
unfolding part
returns c =
    let s = c.args.store.now in
    sheet-written s c.requires.lists c.lists_at-at.result _ _ c.result_places-places.result c.lists_at-at.ensures refl refl c.result_places-places.ensures c.args.out.now c.write_sheet_text.new.out c.write_sheet_text.ensures.1

use mathlib.Core.Path.{refl}
use native.Mathlib.Omega.{arith}
use Rattle.store.specs.stages.Areas.{which_of}
use Rattle.store.proofs.TellLaws.{list-end, list-part}
use Rattle.store.proofs.lists.list_of.Goals as goal

-- `store::lists::list_of` meets its contract. Assumes nothing.

pub overflow_mul-end : goal.overflow_mul-end
overflow_mul-end c =
    let r = list-end c.args.store.now c.requires (which_of c.args.which) c.list_at-list.result c.list_at-list.ensures in
    omega (arith, r)

pub overflow_add-end : goal.overflow_add-end
overflow_add-end c =
    let r = list-end c.args.store.now c.requires (which_of c.args.which) c.list_at-list.result c.list_at-list.ensures in
    omega (arith, r)

pub offset_bounds-store-at : goal.offset_bounds-store-at
offset_bounds-store-at c =
    let r = list-end c.args.store.now c.requires (which_of c.args.which) c.list_at-list.result c.list_at-list.ensures in
    omega (arith, r)

pub slice_bounds-result-end : goal.slice_bounds-result-end
slice_bounds-result-end c =
    let r = list-end c.args.store.now c.requires (which_of c.args.which) c.list_at-list.result c.list_at-list.ensures in
    omega (arith, r)

pub returns : goal.returns
returns c = list-part c.args.store.now c.requires (which_of c.args.which) c.list_at-list.result c.list_at-list.ensures _ refl

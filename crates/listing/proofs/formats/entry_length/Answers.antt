use mathlib.Core.Path.{◌≡◌, ap, ◌∙◌}
use native.Mathlib.Omega.{arith}
use Rattle.listing.proofs.EntryLaws.{fields-few, digits-few, digits_to, digits-none, digits_more, digits-all}
use Rattle.listing.proofs.formats.entry_length.Goals as goal

pub loop-j-init : goal.loop-j-init
loop-j-init c = let z = digits-none c.args.kind in (omega arith, omega arith)

pub field_digits-bytes-requires : goal.field_digits-bytes-requires
field_digits-bytes-requires c = let f = fields-few c.args.kind in omega arith

pub overflow_add-bytes : goal.overflow_add-bytes
overflow_add-bytes c =
    let f = fields-few c.args.kind in
    let d = digits-few c.args.kind c.loop-j.j in
    omega arith

pub loop-j-preserved : goal.loop-j-preserved
loop-j-preserved c =
    let k = c.args.kind in
    let d = digits-few k c.loop-j.j in
    let m = digits_more k c.loop-j.j in
    (omega arith, omega arith)

pub returns : goal.returns
returns c =
    let k = c.args.kind in
    let f = fields-few k in
    let e : c.loop-j.j ≡ c.field_count-j-end.result = omega arith in
    let a = ap (digits_to k) (e ∙ c.field_count-j-end.ensures) ∙ digits-all k in
    (omega arith, omega arith)

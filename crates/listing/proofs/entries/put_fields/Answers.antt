use mathlib.Core.Path.{◌≡◌, subst}
use Rattle.listing.specs.rules.Digits.{joined}
use Rattle.listing.specs.stages.Puts.{Put}
use Rattle.listing.specs.rules.Sheets.{field_count, fields_text, word_from}
use Rattle.listing.proofs.TextLaws.{put-none}
use Rattle.listing.proofs.EntryLaws.{fields-few, fields-more, fields-room}
use native.Mathlib.Omega.{arith}
use Rattle.listing.proofs.entries.put_fields.Goals as goal

pub loop-j-init : goal.loop-j-init
unfolding joined
loop-j-init c = let a = c.args in put-none a.out.now a.at

pub field_digits-digits-requires : goal.field_digits-digits-requires
field_digits-digits-requires c = let f = fields-few c.args.kind in omega arith

pub put_hex-p-requires : goal.put_hex-p-requires
put_hex-p-requires c =
    let a = c.args in
    fields-room a.out.now c.loop-j.out a.words.now a.at a.kind a.from c.loop-j.j c.loop-j.p c.field_digits-digits.result (omega arith) (omega arith) c.field_digits-digits.ensures c.loop-j.invariant

pub loop-j-preserved : goal.loop-j-preserved
loop-j-preserved c =
    let a = c.args in
    fields-more a.out.now c.loop-j.out c.put_hex-p.new.out a.words.now a.at a.kind a.from c.loop-j.j c.loop-j.p c.put_hex-p.result c.field_digits-digits.result (omega arith) (omega arith) c.field_digits-digits.ensures c.loop-j.invariant c.put_hex-p.ensures

pub returns : goal.returns
returns c =
    let a = c.args in
    let e : c.loop-j.j ≡ field_count a.kind = omega arith in
    subst (λ n. Put a.out.now a.at (fields_text a.kind (word_from a.words.now a.from) n) c.loop-j.p c.loop-j.out) e c.loop-j.invariant

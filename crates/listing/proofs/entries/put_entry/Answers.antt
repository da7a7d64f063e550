use Rattle.listing.proofs.EntryLaws.{kind-room, entry-room, entry-put}
use native.Mathlib.Omega.{arith}
use Rattle.listing.proofs.entries.put_entry.Goals as goal

pub put_hex-p-requires : goal.put_hex-p-requires
put_hex-p-requires c = let a = c.args in kind-room a.out.now a.words.now a.at a.kind a.from c.requires.2

pub put_fields-q-requires : goal.put_fields-q-requires
put_fields-q-requires c =
    let a = c.args in
    let r = entry-room a.out.now c.put_hex-p.new.out a.words.now a.at a.kind a.from c.put_hex-p.result c.requires.2 c.put_hex-p.ensures in
    (c.requires.0, c.requires.1, omega arith)

pub bounds-out-q : goal.bounds-out-q
bounds-out-q c =
    let a = c.args in
    let r = entry-room a.out.now c.put_hex-p.new.out a.words.now a.at a.kind a.from c.put_hex-p.result c.requires.2 c.put_hex-p.ensures in
    omega (arith, c.put_fields-q.auto.out, c.put_fields-q.ensures.place)

pub overflow_add-result : goal.overflow_add-result
overflow_add-result c =
    let a = c.args in
    let r = entry-room a.out.now c.put_hex-p.new.out a.words.now a.at a.kind a.from c.put_hex-p.result c.requires.2 c.put_hex-p.ensures in
    omega (arith, c.put_hex-p.auto.out, c.put_fields-q.ensures.place)

pub returns : goal.returns
returns c =
    let a = c.args in
    entry-put a.out.now c.put_hex-p.new.out c.put_fields-q.new.out a.words.now a.at a.kind a.from c.put_hex-p.result c.put_fields-q.result c.requires.2 c.put_hex-p.ensures c.put_fields-q.ensures

use Prim.Native.Nat.{◌+◌}
use Rattle.listing.specs.rules.Sheets.{entries_text}
use Rattle.listing.proofs.TextLaws.{three-room, three-room-2, three-room-3, three-put}
use native.Mathlib.Omega.{arith}
use Rattle.listing.proofs.entries.put_three_kinds.Goals as goal

pub put_entries-p-requires : goal.put_entries-p-requires
put_entries-p-requires c =
    let a = c.args in
    (omega arith, c.requires.1, three-room a.out.now (entries_text a.kind a.first.words.now a.first.n) (entries_text (a.kind + 1) a.second.words.now a.second.n) (entries_text (a.kind + 2) a.third.words.now a.third.n) a.at c.requires.4)

pub put_entries-q-requires : goal.put_entries-q-requires
put_entries-q-requires c =
    let a = c.args in
    (omega arith, c.requires.2, three-room-2 a.out.now (entries_text a.kind a.first.words.now a.first.n) (entries_text (a.kind + 1) a.second.words.now a.second.n) (entries_text (a.kind + 2) a.third.words.now a.third.n) a.at c.requires.4 c.put_entries-p.new.out c.put_entries-p.result c.put_entries-p.ensures)

pub put_entries-requires : goal.put_entries-requires
put_entries-requires c =
    let a = c.args in
    (omega arith, c.requires.3, three-room-3 a.out.now (entries_text a.kind a.first.words.now a.first.n) (entries_text (a.kind + 1) a.second.words.now a.second.n) (entries_text (a.kind + 2) a.third.words.now a.third.n) a.at c.requires.4 c.put_entries-p.new.out c.put_entries-q.new.out c.put_entries-p.result c.put_entries-q.result c.put_entries-p.ensures c.put_entries-q.ensures)

pub returns : goal.returns
returns c =
    let a = c.args in
    three-put a.out.now (entries_text a.kind a.first.words.now a.first.n) (entries_text (a.kind + 1) a.second.words.now a.second.n) (entries_text (a.kind + 2) a.third.words.now a.third.n) a.at c.requires.4 c.put_entries-p.new.out c.put_entries-q.new.out c.put_entries.new.out c.put_entries-p.result c.put_entries-q.result c.put_entries.result c.put_entries-p.ensures c.put_entries-q.ensures c.put_entries.ensures

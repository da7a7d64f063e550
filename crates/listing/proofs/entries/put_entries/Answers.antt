use mathlib.Core.Path.{◌≡◌, subst}
use lib.ListN.{length}
use Rattle.listing.specs.rules.Digits.{joined}
use Rattle.listing.specs.stages.Puts.{Put}
use Rattle.listing.specs.rules.Sheets.{field_count, entries_text}
use Rattle.listing.proofs.TextLaws.{put-none}
use Rattle.listing.proofs.EntryLaws.{words-there, entries-more, entries-room}
use native.Mathlib.Omega.{arith}
use Rattle.listing.proofs.entries.put_entries.Goals as goal

pub loop-i-init : goal.loop-i-init
unfolding entries_text joined
loop-i-init c = let a = c.args in put-none a.out.now a.at

pub overflow_mul-i : goal.overflow_mul-i
overflow_mul-i c =
    omega (arith, words-there c.args.list.n c.loop-i.i (field_count c.args.kind) (length c.args.list.words.now) c.field_count-count.result c.field_count-count.ensures c.requires.1 (omega arith))

pub put_entry-p-requires : goal.put_entry-p-requires
put_entry-p-requires c =
    let a = c.args in (
      c.requires.0,
      words-there a.list.n c.loop-i.i (field_count a.kind) (length a.list.words.now) c.field_count-count.result c.field_count-count.ensures c.requires.1 (omega arith),
      entries-room a.out.now c.loop-i.out a.list.words.now a.at a.kind a.list.n c.loop-i.i c.loop-i.p (omega arith) c.requires.2 c.field_count-count.result c.field_count-count.ensures c.loop-i.invariant,
    )

pub loop-i-preserved : goal.loop-i-preserved
loop-i-preserved c =
    let a = c.args in
    entries-more a.out.now c.loop-i.out c.put_entry-p.new.out a.list.words.now a.at a.kind a.list.n c.loop-i.i c.loop-i.p c.put_entry-p.result (omega arith) c.requires.2 c.field_count-count.result c.field_count-count.ensures c.loop-i.invariant c.put_entry-p.ensures

pub returns : goal.returns
returns c =
    let a = c.args in
    let e : c.loop-i.i ≡ a.list.n = omega arith in
    subst (λ n. Put a.out.now a.at (entries_text a.kind a.list.words.now n) c.loop-i.p c.loop-i.out) e c.loop-i.invariant

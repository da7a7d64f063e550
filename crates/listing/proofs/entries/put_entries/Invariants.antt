use Rattle.listing.specs.stages.Puts.{Put}
use Rattle.listing.specs.rules.Sheets.{entries_text}
use Rattle.listing.proofs.entries.put_entries.Given as goal

abbrev pub invariant-loop-i : goal.invariant-loop-i
invariant-loop-i l = Put l.initial.out l.at (entries_text l.kind l.list.words.now l.i) l.p l.out

use Rattle.listing.specs.stages.Puts.{Put}
use Rattle.listing.specs.rules.Sheets.{fields_text, word_from}
use Rattle.listing.proofs.entries.put_fields.Given as goal

abbrev pub invariant-loop-j : goal.invariant-loop-j
invariant-loop-j l = Put l.initial.out l.at (fields_text l.kind (word_from l.words l.from) l.j) l.p l.out

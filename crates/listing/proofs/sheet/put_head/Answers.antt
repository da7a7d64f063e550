use Rattle.listing.proofs.EntryLaws.{length-entry}
use native.Mathlib.Omega.{arith}
use borrow.Author.Rules.{rules}
use Rattle.listing.proofs.sheet.put_head.Goals as goal

pub put_entry-requires : goal.put_entry-requires
put_entry-requires c = (search rules, search rules, simp length-entry (omega arith))

use mathlib.Core.Path.{refl}
use Rattle.listing.proofs.EntryLaws.{found_part}
use Rattle.listing.proofs.entries.entries_at.Goals as goal

pub returns : goal.returns
returns c = let a = c.args in (found_part a.words.now a.at a.kind a.n c.field_count.result c.field_count.ensures, refl)

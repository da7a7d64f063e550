use mathlib.Core.Bool.{Bool}
use mathlib.Core.List.{List, [], ◌∷◌}
use Prim.Native.Nat.{ℕ}
use lib.Dec.{eqb, eqb→eq}
use lib.ListN.{get_or}
use Rattle.listing.proofs.ComputedTable.{at}
use Rattle.listing.specs.rules.Sheets.{field_count}
use borrow.Author.Rules.{rules}
use Rattle.listing.proofs.formats.field_count.Goals as goal

-- the table of the source
entries : List ℕ
entries = 7 ∷ 8 ∷ 5 ∷ 4 ∷ 4 ∷ 6 ∷ 2 ∷ 6 ∷ []

right : ℕ → ℕ → Bool
right k x = eqb x (field_count k)

pub returns : goal.returns
unfolding entries right
returns c =
    eqb→eq (get_or entries c.args.kind 0) (field_count c.args.kind) (at right entries tt c.args.kind (search rules))

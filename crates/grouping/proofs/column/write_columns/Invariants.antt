use mathlib.Core.Path.{◌≡◌}
use Prim.Native.Nat.{ℕ}
use lib.ListN.{length, get_or}
use Rattle.grouping.specs.rules.Columns.{enough_cover}
use Rattle.grouping.proofs.ColumnWords.{Written}
use Rattle.grouping.proofs.column.write_columns.Given as goal

abbrev pub invariant-loop-x : goal.invariant-loop-x
invariant-loop-x l = (length l.out ≡ length l.initial.out) × Written l.gap (λ (k : ℕ). enough_cover l.frac l.busiest (get_or l.cover k 0)) l.initial.out l.out l.n l.x

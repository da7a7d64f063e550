use Prim.Native.Nat.{ℕ, ◌≤◌}
use mathlib.Core.Path.{◌≡◌}
use mathlib.Core.List.{List}
use lib.ListN.{length, drop}
use Rattle.union_find.specs.rules.Classes.{first_of}
use Rattle.union_find.specs.stages.Forests.{Forest}
use Rattle.grouping.proofs.NumberLaws.{Numbered}
use Rattle.grouping.proofs.number.number_blocks.Given as goal

abbrev pub invariant-loop-i : goal.invariant-loop-i
invariant-loop-i l = (length l.parents ≡ length l.initial.parents) × (l.count ≤ l.i) × (drop l.i l.parents ≡ drop l.i l.initial.parents) × ((fs : List ℕ) → Forest (first_of fs) l.initial.parents l.n → ((k : ℕ) → first_of fs k ≤ k) → Numbered fs l.initial.parents l.parents l.count l.i)

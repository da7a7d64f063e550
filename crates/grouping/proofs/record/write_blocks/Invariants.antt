use Prim.Native.Nat.{ℕ, ◌≤◌, ◌<◌}
use mathlib.Core.Path.{◌≡◌}
use mathlib.Core.List.{List}
use lib.ListN.{length, get_or}
use Rattle.union_find.specs.rules.Classes.{first_of}
use Rattle.grouping.specs.rules.Blocks.{block_number}
use Rattle.grouping.specs.stages.LineBoxes.{line_boxes}
use Rattle.grouping.proofs.BlockWords.{WrittenBehind}
use Rattle.grouping.proofs.record.write_blocks.Given as goal

abbrev pub invariant-loop-i : goal.invariant-loop-i
invariant-loop-i l = (length l.words ≡ length l.initial.words) × ((fs : List ℕ) → ((k : ℕ) → first_of fs k ≤ k) → ((k : ℕ) → first_of fs (first_of fs k) ≡ first_of fs k) → ((k : ℕ) → k < l.n → get_or l.numbers k 0 ≡ block_number fs k) → WrittenBehind (line_boxes l.initial.words l.n) fs l.initial.words l.words l.at l.count l.i)

use mathlib.Core.Path.{◌≡◌}
use lib.ListN.{length}
use Rattle.grouping.specs.rules.HeldLines.{centre_at, block_at}
use Rattle.grouping.proofs.PitchLaws.{Walked}
use Rattle.grouping.proofs.pitch.count_pitches.Given as goal

abbrev pub invariant-loop-i : goal.invariant-loop-i
invariant-loop-i l = (length l.table ≡ length l.initial.table) × Walked (centre_at l.lines) (block_at l.lines) l.values l.blocks l.table l.found l.i

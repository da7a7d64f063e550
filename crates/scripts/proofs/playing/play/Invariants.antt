use lib.ListN.{length}
use Rattle.account.specs.rules.Calls.{world}
use Rattle.scripts.specs.rules.Scripts.{script_of, outputs, memory}
use Rattle.scripts.proofs.PlayLaws.{Going}
use Rattle.scripts.proofs.playing.play.Given as goal

abbrev pub invariant-loop-i : goal.invariant-loop-i
invariant-loop-i l =
    Going (script_of l.script l.floats l.bytes (length l.initial.scratch)) (memory (world l.initial.store l.initial.ink l.initial.kinds) (outputs l.initial.words l.initial.gray l.initial.integers l.initial.numbers)) l.initial.log l.i (memory (world l.store l.ink l.kinds) (outputs l.words l.gray l.integers l.numbers)) l.log

use mathlib.Core.Path.{◌≡◌}
use Prim.Native.Nat.{◌≤◌}
use native.Mathlib.Omega.{arith}
use Rattle.std.proofs.lemmas.Bool.Decides.{nat_tests}
use lib.ListN.{length}
use Rattle.scripts.specs.rules.Scripts.{outputs}
use Rattle.scripts.proofs.CallLaws.{word-is, word-clears, word-reads, word-tells}
use Rattle.scripts.proofs.ScriptLaws.{did-level, did-segment, did-read-level, did-read-result, did-clear}
use Rattle.scripts.proofs.playing.perform.Goals as goal

pub returns-in-Level : goal.returns-in-Level
returns-in-Level c =
    let w : c.word_at.result ≡ 1 = word-is c.from.ensures c.in-Level.is (omega arith) in
    did-level c.args.floats.now c.args.bytes.now (length c.args.scratch.now) c.args.call.now c.args.store.now c.args.ink.now c.args.kinds.now (outputs c.args.words.now c.args.gray.now c.args.integers.now c.args.numbers.now) c.word_at.ensures c.log_outcome.ensures.0 c.log_outcome.ensures.1 w c.level_call.ensures

pub returns-in-Segment : goal.returns-in-Segment
returns-in-Segment c =
    let w : c.word_at.result ≡ 2 = word-is c.from.ensures c.in-Segment.is (omega arith) in
    did-segment c.args.floats.now c.args.bytes.now (length c.args.scratch.now) c.args.call.now c.args.store.now c.args.ink.now c.args.kinds.now (outputs c.args.words.now c.args.gray.now c.args.integers.now c.args.numbers.now) c.word_at.ensures c.log_outcome-in-Segment.ensures.0 c.log_outcome-in-Segment.ensures.1 (omega arith) w c.segment_call.ensures

pub returns-in-ToPage : goal.returns-in-ToPage
returns-in-ToPage c =
    let w : (3 ≤ c.word_at.result) × (c.word_at.result ≤ 6) = word-reads c.from.ensures c.in-ToPage.is in
    did-read-level c.args.floats.now c.args.bytes.now (length c.args.scratch.now) c.args.call.now c.args.store.now c.args.ink.now c.args.kinds.now (outputs c.args.words.now c.args.gray.now c.args.integers.now c.args.numbers.now) c.word_at.ensures c.log_outcome-in-ToPage.ensures.0 c.log_outcome-in-ToPage.ensures.1 (omega arith) (omega arith) (grind (arith, nat_tests)) c.cut-n.ensures (c.read_level.ensures c.args.numbers.now)

pub returns-in-Clear : goal.returns-in-Clear
returns-in-Clear c =
    let h : 1 ≤ c.word_at.result → 19 ≤ c.word_at.result = word-clears c.from.ensures c.in-Clear.is in
    did-clear c.args.floats.now c.args.bytes.now (length c.args.scratch.now) c.args.call.now c.args.store.now c.args.ink.now c.args.kinds.now (outputs c.args.words.now c.args.gray.now c.args.integers.now c.args.numbers.now) c.word_at.ensures c.log_outcome-in-Clear.ensures.0 c.log_outcome-in-Clear.ensures.1 (λ e. let l = h (omega arith) in omega arith) (λ e. let l = h (omega arith) in omega arith) (grind (arith, nat_tests)) (grind (arith, nat_tests)) c.cut-n.ensures c.clear.ensures c.clear.auto.store

pub returns-in_default : goal.returns-in_default
returns-in_default c =
    let d = c.in_default in
    let w : (7 ≤ c.word_at.result) × (c.word_at.result ≤ 18) = word-tells c.from.ensures d.not-Clear d.not-Level d.not-Segment d.not-ToPage d.not-RectToPage d.not-LevelGray d.not-Frame in
    did-read-result c.args.floats.now c.args.bytes.now (length c.args.scratch.now) c.args.call.now c.args.store.now c.args.ink.now c.args.kinds.now (outputs c.args.words.now c.args.gray.now c.args.integers.now c.args.numbers.now) c.word_at.ensures (omega arith) (omega arith) (grind (arith, nat_tests)) (grind (arith, nat_tests)) c.cut-n.ensures (c.read_planes.ensures c.args.integers.now)

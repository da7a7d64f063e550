use mathlib.Core.Path.{◌≡◌}
use native.Mathlib.Omega.{arith}
use Rattle.scripts.proofs.ScriptLaws.{read-summary, read-twenty, read_count, read-sheet, read-words}
use Rattle.scripts.proofs.CallLaws.{word-is, word-not}
use Rattle.scripts.proofs.playing.read_results.Goals as goal

pub returns-in-Summary : goal.returns-in-Summary
returns-in-Summary c =
    let w : c.word_at.result ≡ 8 = word-is c.from.ensures c.in-Summary.is (omega arith) in
    read-summary c.args.call.now c.args.store.now c.args.ink.now c.args.kinds.now c.args.words.now c.args.gray.now c.args.numbers.now c.word_at.ensures c.log_outcome.ensures.0 c.log_outcome.ensures.1 (omega arith) c.cut-n.ensures c.read_summary.ensures c.read_summary.auto.out

pub returns-in-TwentyLines : goal.returns-in-TwentyLines
returns-in-TwentyLines c =
    let w : c.word_at.result ≡ 9 = word-is c.from.ensures c.in-TwentyLines.is (omega arith) in
    read-twenty c.args.call.now c.args.store.now c.args.ink.now c.args.kinds.now c.args.words.now c.args.gray.now c.args.numbers.now c.word_at.ensures c.log_answer.ensures.0 c.log_answer.ensures.1 (omega arith) (omega arith) c.twenty_line_measure.ensures

pub returns-in-CountDots : goal.returns-in-CountDots
returns-in-CountDots c =
    let w : c.word_at.result ≡ 10 = word-is c.from.ensures c.in-CountDots.is (omega arith) in
    read_count c.args.call.now c.args.store.now c.args.ink.now c.args.kinds.now c.args.words.now c.args.gray.now c.args.numbers.now c.word_at.ensures c.log_answer-in-CountDots.ensures.0 c.log_answer-in-CountDots.ensures.1 (omega arith) (omega arith) (omega arith) c.word_at-kind.ensures c.box_from.ensures c.count_dots.ensures

pub returns-in-Sheet : goal.returns-in-Sheet
returns-in-Sheet c =
    let w : c.word_at.result ≡ 18 = word-is c.from.ensures c.in-Sheet.is (omega arith) in
    read-sheet c.args.call.now c.args.store.now c.args.ink.now c.args.kinds.now c.args.words.now c.args.gray.now c.args.numbers.now c.word_at.ensures c.log_answer-in-Sheet.ensures.0 c.log_answer-in-Sheet.ensures.1 (omega arith) (omega arith) (omega arith) (omega arith) c.cut-n-in-Sheet.ensures c.write_sheet.ensures c.write_sheet.auto.out

pub returns-in_default : goal.returns-in_default
returns-in_default c = read-words c.args.call.now c.args.store.now c.args.ink.now c.args.kinds.now c.args.words.now c.args.gray.now c.args.numbers.now c.word_at.ensures (word-not c.from.ensures 8 c.in_default.not-Summary) (word-not c.from.ensures 9 c.in_default.not-TwentyLines) (word-not c.from.ensures 10 c.in_default.not-CountDots) (word-not c.from.ensures 18 c.in_default.not-Sheet) c.cut-n-in_default.ensures c.read_words.ensures c.read_words.auto.out

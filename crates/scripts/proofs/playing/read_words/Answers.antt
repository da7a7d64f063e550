use mathlib.Core.Path.{◌≡◌}
use native.Mathlib.Omega.{arith}
use Rattle.scripts.proofs.ScriptLaws.{words-figures, words-dots, words-list}
use Rattle.scripts.proofs.CallLaws.{word-is, word-not}
use Rattle.scripts.proofs.playing.read_words.Goals as goal

pub returns-in-Figures : goal.returns-in-Figures
returns-in-Figures c =
    let w : c.word_at-op.result ≡ 7 = word-is c.from.ensures c.in-Figures.is (omega arith) in
    let a = c.args in
    words-figures a.call.now a.out.now a.store.now a.ink.now a.kinds.now c.word_at-op.ensures c.log_outcome.ensures.0 c.log_outcome.ensures.1 (omega arith) c.read_figures.ensures

pub returns-in-ReadDots : goal.returns-in-ReadDots
returns-in-ReadDots c =
    let w : c.word_at-op.result ≡ 11 = word-is c.from.ensures c.in-ReadDots.is (omega arith) in
    let a = c.args in
    words-dots a.call.now a.out.now a.store.now a.ink.now a.kinds.now c.word_at-op.ensures c.log_answer.ensures.0 c.log_answer.ensures.1 (omega arith) (omega arith) c.word_at-kind.ensures c.box_from.ensures c.read_dots.ensures

pub returns-in_default : goal.returns-in_default
returns-in_default c =
    let a = c.args in
    words-list a.call.now a.out.now a.store.now a.ink.now a.kinds.now c.word_at-op.ensures c.log_answer-in_default.ensures.0 c.log_answer-in_default.ensures.1 (word-not c.from.ensures 7 c.in_default.not-Figures) (word-not c.from.ensures 11 c.in_default.not-ReadDots) c.read_list.ensures

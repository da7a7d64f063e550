use Rattle.scripts.proofs.ScriptLaws.{level-called}
use Rattle.scripts.proofs.playing.level_call.Goals as goal

pub returns : goal.returns
returns c =
    let a = c.args in
    level-called a.call.now a.floats.now a.bytes.now a.store.now a.ink.now c.cut-n.ensures c.cut-m.ensures c.bytes_of-mask.ensures c.word_at-width.ensures c.word_at-height.ensures c.word_at-turns.ensures c.float_at-skew.ensures c.float_at-slope.ensures c.sheet_of-sheet.ensures c.word_at-capacity.ensures c.level.ensures c.level.auto.store c.level.auto.ink

use mathlib.Core.Path.{◌≡◌}
use native.Mathlib.Omega.{arith}
use Rattle.scripts.proofs.ScriptLaws.{read-point, read-box, read-gray, read-frame}
use Rattle.scripts.proofs.CallLaws.{word-is, word-not}
use Rattle.scripts.proofs.playing.read_level.Goals as goal

pub returns-in-ToPage : goal.returns-in-ToPage
returns-in-ToPage c =
    let w : c.word_at.result ≡ 3 = word-is c.from.ensures c.in-ToPage.is (omega arith) in
    let a = c.args in
    read-point a.call.now a.bytes.now a.store.now a.words.now a.gray.now a.integers.now c.word_at.ensures (omega arith) c.cut-n.ensures c.word_at-x.ensures c.word_at-y.ensures c.to_page.ensures c.to_page.auto.point

pub returns-in-RectToPage : goal.returns-in-RectToPage
returns-in-RectToPage c =
    let w : c.word_at.result ≡ 4 = word-is c.from.ensures c.in-RectToPage.is (omega arith) in
    let a = c.args in
    read-box a.call.now a.bytes.now a.store.now a.words.now a.gray.now a.integers.now c.word_at.ensures (omega arith) (omega arith) c.cut-n-in-RectToPage.ensures c.box_from.ensures c.rect_to_page.ensures c.rect_to_page.auto.rect

pub returns-in-LevelGray : goal.returns-in-LevelGray
returns-in-LevelGray c =
    let w : c.word_at.result ≡ 5 = word-is c.from.ensures c.in-LevelGray.is (omega arith) in
    let a = c.args in
    read-gray a.call.now a.bytes.now a.store.now a.words.now a.gray.now a.integers.now c.word_at.ensures (omega arith) (omega arith) (omega arith) c.cut-n-in-LevelGray.ensures c.bytes_of.ensures c.level_gray.ensures c.level_gray.auto.out

pub returns-in_default : goal.returns-in_default
returns-in_default c =
    let a = c.args in
    read-frame a.call.now a.bytes.now a.store.now a.words.now a.gray.now a.integers.now c.word_at.ensures (word-not c.from.ensures 3 c.in_default.not-ToPage) (word-not c.from.ensures 4 c.in_default.not-RectToPage) (word-not c.from.ensures 5 c.in_default.not-LevelGray) c.cut-n-in_default.ensures c.read_frame.ensures c.read_frame.auto.out

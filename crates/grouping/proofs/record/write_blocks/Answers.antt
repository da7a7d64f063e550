use Prim.Native.Nat.{ℕ, ◌+◌, ◌*◌}
use mathlib.Core.Path.{refl, sym, ap, ◌∙◌}
use mathlib.Core.List.{List}
use lib.ListN.{length, get_or, take, drop, length-drop}
use lib.Seq.{get_or-take, length-take-le}
use Rattle.memory.proofs.TableLaws.{length-table, get_or-table}
use Rattle.memory.proofs.PartLaws.{tail-part}
use Rattle.grouping.specs.rules.Blocks.{no_rect}
use Rattle.grouping.specs.rules.HeldLines.{line_box}
use Rattle.grouping.specs.stages.LineBoxes.{line_boxes}
use Rattle.grouping.proofs.BlockWords.{behind-none, behind_more, behind-all, behind-long, line-there, written-few, number-at-most, lines-there}
use native.Mathlib.Omega.{arith}
use Rattle.grouping.proofs.record.write_blocks.Goals as goal

pub loop-i-init : goal.loop-i-init
loop-i-init c = (refl, λ fs l m k. behind-none _ fs _ _)

pub add_line-count-requires : goal.add_line-count-requires
add_line-count-requires c =
    let a = c.args in
    let h = c.requires.5 in
    let size_n = length-take-le a.n a.numbers.now (omega arith) in
    let e = get_or-take a.n a.numbers.now c.loop-i.i 0 (omega arith) ∙ h.3 c.loop-i.i (omega arith) in
    let w = (c.loop-i.invariant.1 h.0 h.1 h.2 h.3).written in
    let few = written-few (line_boxes a.words.now a.n) h.0 (drop a.at a.words.now) (drop a.at c.loop-i.words) c.loop-i.count c.loop-i.i h.1 h.2 w in
    let most = number-at-most (line_boxes a.words.now a.n) h.0 (drop a.at a.words.now) (drop a.at c.loop-i.words) c.loop-i.count c.loop-i.i h.1 h.2 w in
    let part = tail-part a.at c.loop-i.words in
    let size = length-drop a.at c.loop-i.words in
    let long = ap length part in (
      omega arith,
      omega arith,
      λ l.
          let t = lines-there (line_boxes a.words.now a.n) h.0 (drop a.at a.words.now) (drop a.at c.loop-i.words) c.loop-i.count c.loop-i.i h.1 h.2 w (omega arith) in
          let z = ap (λ (s : List ℕ). get_or s (get_or (take a.n a.numbers.now) c.loop-i.i 0 * 5 + 4) 0) part in
          let y = ap (λ (k : ℕ). get_or (drop a.at c.loop-i.words) (k * 5 + 4) 0) e in
          omega arith,
    )

pub loop-i-preserved : goal.loop-i-preserved
loop-i-preserved c =
    let a = c.args in
    let h = c.requires.5 in
    let size_n = length-take-le a.n a.numbers.now (omega arith) in
    let few = written-few (line_boxes a.words.now a.n) h.0 (drop a.at a.words.now) (drop a.at c.loop-i.words) c.loop-i.count c.loop-i.i h.1 h.2 (c.loop-i.invariant.1 h.0 h.1 h.2 h.3).written in (
      behind-long c.loop-i.words c.add_line-count.new.out a.at (omega arith) c.add_line-count.auto.out ∙ c.loop-i.invariant.0,
      λ fs l m k.
          let w = c.loop-i.invariant.1 fs l m k in
          behind_more (line_boxes a.words.now a.n) fs a.words.now c.loop-i.words c.add_line-count.new.out a.at c.loop-i.count c.loop-i.i l m w c.loop-i.invariant.0 (omega arith)
          c.line_box-line.result c.add_line-count.result _
          (c.line_box-line.ensures ∙ (line-there a.words.now c.loop-i.words a.at c.loop-i.i w.front (omega arith) ∙ sym (get_or-table (line_box a.words.now) a.n c.loop-i.i no_rect (omega arith))))
          (get_or-take a.n a.numbers.now c.loop-i.i 0 (omega arith) ∙ k c.loop-i.i (omega arith))
          c.add_line-count.ensures,
    )

pub returns : goal.returns
returns c = λ fs l m k.
    let a = c.args in
    let size_n = length-take-le a.n a.numbers.now (omega arith) in
    behind-all (line_boxes a.words.now a.n) fs a.words.now c.loop-i.words a.at c.loop-i.count c.loop-i.i (c.loop-i.invariant.1 fs l m k) (let e = length-table (line_box a.words.now) a.n in omega arith)

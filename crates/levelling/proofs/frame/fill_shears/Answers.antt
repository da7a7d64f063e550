use mathlib.Core.Path.{◌≡◌, sym, ap, ◌∙◌}
use Prim.Native.Nat.{◌-◌}
use native.Mathlib.Omega.{arith}
use borrow.Author.Rules.{rules}
use lib.ListN.{length, take, drop, length-take, length-drop}
use Rattle.memory.specs.rules.Lists.{table}
use Rattle.memory.specs.rules.Words.{over}
use Rattle.memory.proofs.PartLaws.{over-behind}
use Rattle.rounding.specs.rules.Drift.{drift_x}
use Rattle.levelling.specs.rules.Shears.{shear_of}
use Rattle.levelling.specs.rules.Frames.{frame}
use Rattle.levelling.proofs.FrameLaws.{frame-rows, shear-is, shear-x-is, length-shears}
use Rattle.levelling.proofs.frame.fill_shears.Goals as goal

pub fill_shear-requires-2 : goal.fill_shear-requires-2
fill_shear-requires-2 c = let w = c.args.page_w in
    let rows = frame-rows w c.args.page_h c.args.slope c.requires.sides c.requires.slope in
    let e = c.frame_size-size.ensures.sides.1 in
    let one = c.requires.slope in
    record { count = (omega (arith, rows, e), omega (arith, rows, e), simp (length-take, length-drop) (omega (arith, e, c.requires.room, c.fill_shear.auto.out))); slope = search rules }

pub returns : goal.returns
returns c = let w = c.args.page_w in
    let h = c.args.page_h in
    let slope = c.args.slope in
    let x : shear_of (table (drift_x slope) c.frame_size-size.result.h) ≡ (frame w h slope).shear_x =
    ap (λ n. shear_of (table (drift_x slope) n)) c.frame_size-size.ensures.sides.1 ∙ sym (shear-x-is w h slope c.requires.sides c.requires.slope) in
    let one = c.fill_shear.new.out in
    over-behind (frame w h slope).shear (frame w h slope).shear_x c.args.words.now one c.fill_shear-2.new.out w
    (length-shears w h slope c.requires.sides c.requires.slope).0
    (c.fill_shear.ensures ∙ ap (λ s. over s c.args.words.now) (sym (shear-is w h slope c.requires.sides c.requires.slope)))
    (c.fill_shear-2.ensures ∙ ap (λ s. over s (take (length one - w) (drop w one))) x)

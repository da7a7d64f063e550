use mathlib.Core.Path.{sym, subst}
use Prim.Native.Nat.{◌≤◌}
use native.Mathlib.Omega.{arith}
use Rattle.memory.specs.rules.Limits.{max_frame_width, max_frame_height}
use Rattle.levelling.proofs.FrameLaws.{frame-rows, frame-fits, rows-by-shear, sides-by-shears}
use Rattle.levelling.proofs.frame.frame_size.Goals as goal

pub overflow_add-h : goal.overflow_add-h
overflow_add-h c = let h = rows-by-shear c.args.page_w c.args.page_h c.args.slope c.requires.sides c.requires.slope c.greatest_entry.result c.greatest_entry.ensures in
    omega (arith, h, frame-rows c.args.page_w c.args.page_h c.args.slope c.requires.sides c.requires.slope)

pub greatest_entry-requires-2 : goal.greatest_entry-requires-2
greatest_entry-requires-2 c = let h = rows-by-shear c.args.page_w c.args.page_h c.args.slope c.requires.sides c.requires.slope c.greatest_entry.result c.greatest_entry.ensures in
    let rows = frame-rows c.args.page_w c.args.page_h c.args.slope c.requires.sides c.requires.slope in
    record { count = (omega arith, omega arith); slope = c.requires.slope }

pub overflow_add-w : goal.overflow_add-w
overflow_add-w c = let s = sides-by-shears c.args.page_w c.args.page_h c.args.slope c.requires.sides c.requires.slope c.greatest_entry.result c.greatest_entry-2.result c.greatest_entry.ensures c.greatest_entry-2.ensures in
    omega (arith, s.0, frame-fits c.args.page_w c.args.page_h c.args.slope c.requires.sides c.requires.slope)

pub returns : goal.returns
returns c = let s = sides-by-shears c.args.page_w c.args.page_h c.args.slope c.requires.sides c.requires.slope c.greatest_entry.result c.greatest_entry-2.result c.greatest_entry.ensures c.greatest_entry-2.ensures in
    let f = frame-fits c.args.page_w c.args.page_h c.args.slope c.requires.sides c.requires.slope in
    record { sides = s; limits = (subst (λ z. z ≤ max_frame_width) (sym s.0) f.0, subst (λ z. z ≤ max_frame_height) (sym s.1) f.1) }

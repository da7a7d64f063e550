use native.Mathlib.Omega.{arith}
use lib.ListN.{length-set}
use Rattle.store.proofs.LineReads.{twelve}
use Rattle.store.proofs.measures.put_summary.Goals as goal

-- `store::measures::put_summary` meets its contract. Assumes nothing.

pub bounds-out-1 : goal.bounds-out-1
bounds-out-1 c = simp length-set (omega (arith, c.requires))

pub bounds-out-2 : goal.bounds-out-2
bounds-out-2 c = simp length-set (omega (arith, c.requires))

pub bounds-out-3 : goal.bounds-out-3
bounds-out-3 c = simp length-set (omega (arith, c.requires))

pub bounds-out-4 : goal.bounds-out-4
bounds-out-4 c = simp length-set (omega (arith, c.requires))

pub bounds-out-5 : goal.bounds-out-5
bounds-out-5 c = simp length-set (omega (arith, c.requires))

pub bounds-out-6 : goal.bounds-out-6
bounds-out-6 c = simp length-set (omega (arith, c.requires))

pub bounds-out-7 : goal.bounds-out-7
bounds-out-7 c = simp length-set (omega (arith, c.requires))

pub bounds-out-8 : goal.bounds-out-8
bounds-out-8 c = simp length-set (omega (arith, c.requires))

pub bounds-out-9 : goal.bounds-out-9
bounds-out-9 c = simp length-set (omega (arith, c.requires))

pub bounds-out-10 : goal.bounds-out-10
bounds-out-10 c = simp length-set (omega (arith, c.requires))

pub bounds-out-11 : goal.bounds-out-11
bounds-out-11 c = simp length-set (omega (arith, c.requires))

pub returns : goal.returns
returns c = twelve c.args.out.now c.args.s.xheight_px c.args.s.skew_deg_applied c.args.s.glyphs c.args.s.lines c.args.s.blocks c.args.s.columns c.args.s.rules c.args.s.graphics c.args.s.glyph_ink_fraction c.args.s.text_share_of_ink c.args.s.median_line_pitch_xh c.args.s.median_glyph_height_xh c.requires

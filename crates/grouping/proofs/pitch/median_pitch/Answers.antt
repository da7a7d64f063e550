use borrow.Rule.Slice.PartMut.{put_mid}
use Rattle.grouping.proofs.TableWords.{front-filled}
use Prim.Native.Nat.{◌+◌, ◌-◌, ◌*◌}
use mathlib.Core.Path.{refl}
use Rattle.grouping.specs.rules.HeldLines.{centre_at, block_at, pitches_below}
use Rattle.grouping.proofs.CoverWords.{filled_at}
use Rattle.grouping.proofs.PitchLaws.{pitch-counts, below-bound, median-at-most}
use native.Mathlib.Omega.{arith}
use Rattle.grouping.proofs.pitch.median_pitch.Goals as goal

pub count_pitches-found-requires : goal.count_pitches-found-requires
count_pitches-found-requires c = ((c.args.h, c.requires.0, refl), omega arith, omega arith, filled_at (λ k. 0) ((2 * c.args.h) + c.args.blocks) (put_mid 0 (2 * c.args.h + c.args.blocks - 0) c.args.scratch.now c.fill.new.dst) c.args.scratch.now (front-filled 0 (2 * c.args.h + c.args.blocks) c.args.scratch.now _ (omega arith) c.fill.ensures))

pub returns : goal.returns
returns c = let l = pitches_below (centre_at c.args.lines.now) (block_at c.args.lines.now) c.args.n c.args.blocks in
    let e = c.median_of_counts.ensures l (pitch-counts (centre_at c.args.lines.now) (block_at c.args.lines.now) (2 * c.args.h) c.args.n c.args.blocks c.count_pitches-found.result c.count_pitches-found.new.table c.requires.0.blocks (λ i l. let e = c.requires.0.centres i l in omega arith) c.count_pitches-found.ensures.0 c.count_pitches-found.ensures.1 (omega (arith, c.count_pitches-found.auto.table))) in
    let m = median-at-most (2 * c.args.h) l (below-bound (centre_at c.args.lines.now) (block_at c.args.lines.now) (2 * c.args.h) c.args.n c.args.blocks (λ i l. let e = c.requires.0.centres i l in omega arith)) in
    (e, omega arith)

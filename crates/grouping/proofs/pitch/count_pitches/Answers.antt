use Rattle.grouping.specs.stages.Pitches.{walked_pitches, PitchAdded}
use Rattle.memory.proofs.PlaceLaws.{occurs-length}
use Prim.Native.Nat.{◌+◌}
use mathlib.Core.Path.{refl, ◌∙◌, subst}
use Rattle.grouping.specs.rules.HeldLines.{centre_at, block_at}
use Rattle.grouping.proofs.PitchLaws.{walked_none, walked_more, walked-few}
use native.Mathlib.Omega.{arith}
use Rattle.grouping.proofs.pitch.count_pitches.Goals as goal

pub loop-i-init : goal.loop-i-init
loop-i-init c = (refl, walked_none (centre_at c.args.lines.now) (block_at c.args.lines.now) c.args.values c.args.blocks c.args.table.now c.requires.3)

pub add_pitch-found-requires : goal.add_pitch-found-requires
add_pitch-found-requires c = let b = c.requires.0.1.blocks c.loop-i.i (omega arith) in let e = c.requires.0.1.centres c.loop-i.i (omega arith) in let w = c.loop-i.invariant.1 in let f = walked-few (centre_at c.args.lines.now) (block_at c.args.lines.now) c.loop-i.i in let g = w.found-is in (omega arith, omega (arith, c.requires.0.2), c.requires.2, λ k l. let o = w.each k l in let m = occurs-length k (walked_pitches (centre_at c.args.lines.now) (block_at c.args.lines.now) c.loop-i.i) in omega (arith, c.requires.0.1.few))

pub overflow_add-found : goal.overflow_add-found
overflow_add-found c = let m = walked_more (centre_at c.args.lines.now) (block_at c.args.lines.now) c.args.values c.args.blocks c.loop-i.table c.add_pitch-found.new.table c.loop-i.found c.loop-i.i c.add_pitch-found.result (c.requires.0.1.blocks c.loop-i.i (omega arith)) c.loop-i.invariant.1 (subst (λ b. PitchAdded c.args.values b (centre_at c.args.lines.now c.loop-i.i) c.loop-i.table c.add_pitch-found.new.table c.add_pitch-found.result) refl c.add_pitch-found.ensures) in let f = walked-few (centre_at c.args.lines.now) (block_at c.args.lines.now) (c.loop-i.i + 1) in let g = m.found-is in omega (arith, c.requires.0.1.few)

pub loop-i-preserved : goal.loop-i-preserved
loop-i-preserved c = (c.add_pitch-found.auto.table ∙ c.loop-i.invariant.0, walked_more (centre_at c.args.lines.now) (block_at c.args.lines.now) c.args.values c.args.blocks c.loop-i.table c.add_pitch-found.new.table c.loop-i.found c.loop-i.i c.add_pitch-found.result (c.requires.0.1.blocks c.loop-i.i (omega arith)) c.loop-i.invariant.1 (subst (λ b. PitchAdded c.args.values b (centre_at c.args.lines.now c.loop-i.i) c.loop-i.table c.add_pitch-found.new.table c.add_pitch-found.result) refl c.add_pitch-found.ensures))
